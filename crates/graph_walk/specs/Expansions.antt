-- What the parents of commits become where some commits are removed.
use Rattle.std.specs.Prelude.{ℕ, ◌≡◌, ◌<◌, ◌≤◌, Bool, not, ◌&&◌, flat_map, List, [], ◌∷◌, length, Some, slice_get, if◌then◌else◌}
use Rattle.std.specs.List.{AllByRecursion, list_any}
use Rattle.std.specs.Option.{option_map_or}
use Rattle.plain_model.specs.declared.limit.TheConstants.{MAX_PARENTS}
use Rattle.plain_model.specs.declared.id.AnyId.{AnyId}
use Rattle.plain_model.specs.declared.id.AnyId.TheVariants as any
use Rattle.plain_model.specs.declared.fault.Fault.TheVariants.{Limit}
use Rattle.plain_model.specs.declared.fault.Halt.{Halt}
use Rattle.plain_model.specs.declared.fault.Halt.TheVariants.{Refused, Memory}
use Rattle.plain_model.specs.declared.fault.Which.TheVariants.{Parents}
use Rattle.plain_model.specs.declared.event.PlainEvent.{PlainEvent}
use Rattle.plain_model.specs.declared.event.PlainEvent.TheVariants.{Blob, Commit, Tag, Reset, Pass}
use Rattle.plain_model.specs.Histories.{past}
use Rattle.plain_model.specs.Lookups.{event_parents, find_event, is_listed}
use Rattle.edit_laws.specs.Removal.{expand_all}

-- the commit is one of those that are removed
abbrev pub is_removed : List AnyId → ℕ → Bool
is_removed ids c = is_listed (any.Commit c) ids

-- what these parents expand to
abbrev pub new_parents : List PlainEvent → List AnyId → List ℕ → List ℕ
new_parents events removed parents = expand_all (is_removed removed) (past events) parents

-- what the parents of a commit expand to
abbrev pub expanded_parents : List PlainEvent → List AnyId → ℕ → List ℕ
expanded_parents events removed c =
    new_parents events removed (option_map_or event_parents (find_event (any.Commit c) events) [])

-- the parents that an event gets, if it is a commit that stays and has a removed parent
abbrev pub own_change : List PlainEvent → List AnyId → PlainEvent → List (ℕ × List ℕ)
own_change events removed (Commit id mark branch author committer encoding comment parents ops aliases) =
    if not (is_removed removed id) && list_any (is_removed removed) parents then (id, new_parents events removed parents) ∷ [] else []
own_change events removed (Blob id mark bytes) = []
own_change events removed (Tag id name target tagger comment mark) = []
own_change events removed (Reset id branch target) = []
own_change events removed (Pass id line) = []

-- all these, in the order of the list
abbrev pub parent_changes : List PlainEvent → List AnyId → List (ℕ × List ℕ)
parent_changes events removed = flat_map (own_change events removed) events

-- none has more parents than a commit can have
abbrev pub AreFew : List (ℕ × List ℕ) → Type 0
AreFew changes = AllByRecursion (λ change. length change.1 ≤ MAX_PARENTS) changes

-- some commit gets too many
abbrev pub IsCauseOfMany : List (ℕ × List ℕ) → Halt → Type 0
IsCauseOfMany changes Memory = Unit {0}
IsCauseOfMany changes (Refused fault) =
    (fault ≡ Limit Parents MAX_PARENTS) × ((k : ℕ) × (change : ℕ × List ℕ) × (slice_get changes k ≡ Some change) × (MAX_PARENTS < length change.1))
