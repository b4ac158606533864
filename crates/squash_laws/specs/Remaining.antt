-- What a squash leaves as it was, which events stay, and which parents commits have afterwards.
use Rattle.std.specs.Prelude.{◌≡◌, ℕ, Bool, true, not, ◌&&◌, List, [], Some, None, is_some}
use Rattle.std.specs.List.{list_any}
use Rattle.plain_model.specs.declared.event.PlainEvent.{PlainEvent}
use Rattle.plain_model.specs.declared.event.PlainEvent.TheVariants.{Blob, Commit, Tag, Reset, Pass}
use Rattle.plain_model.specs.declared.id.AnyId.{AnyId}
use Rattle.plain_model.specs.declared.id.AnyId.TheVariants as any
use Rattle.plain_model.specs.declared.policy.Policy.{Policy}
use Rattle.plain_model.specs.Histories.{Node, node_at, past}
use Rattle.plain_model.specs.Lookups.{find_event, id_of, is_listed, same_id}
use Rattle.edit_laws.specs.Removal.{expand_all}
use Rattle.squash_laws.specs.Removed.{is_removed}
use Rattle.squash_laws.specs.Takings.{target_after}

-- ---- what is as it was

-- an event without what a squash changes in it: comment, parents and operations of a commit, the target of a tag or a reset
abbrev pub bare : PlainEvent → PlainEvent
bare (Blob id mark bytes) = Blob id mark bytes
bare (Commit id mark branch author committer encoding comment parents ops aliases) =
    Commit id mark branch author committer encoding [] [] [] aliases
bare (Tag id name target tagger comment mark) = Tag id name 0 tagger comment mark
bare (Reset id branch (Some target)) = Reset id branch (Some 0)
bare (Reset id branch None) = Reset id branch None
bare (Pass id line) = Pass id line

-- the history has the event, and the two differ in nothing else but that
abbrev pub IsBareOneOf : List PlainEvent → PlainEvent → Type 0
IsBareOneOf events e = (old : PlainEvent) × (find_event (id_of e) events ≡ Some old) × (bare old ≡ bare e)

-- ---- which events stay

-- an event that isn't of the set stays, if there is a commit for what is on one; blobs of the set are passed over
abbrev pub stays : Policy → List AnyId → List PlainEvent → PlainEvent → Bool
stays how set events (Commit id mark branch author committer encoding comment parents ops aliases) = not (is_removed set id)
stays how set events (Tag id name target tagger comment mark) =
    not (is_listed (any.Tag id) set) && is_some (target_after set events how.push how.tags target)
stays how set events (Reset id branch (Some target)) =
    not (is_listed (any.Reset id) set) && is_some (target_after set events how.push how.tags target)
stays how set events (Reset id branch None) = not (is_listed (any.Reset id) set)
stays how set events (Pass id line) = not (is_listed (any.Pass id) set)
stays how set events (Blob id mark bytes) = true

-- some event with the id stays
abbrev pub is_staying : Policy → List AnyId → List PlainEvent → AnyId → Bool
is_staying how set events id = list_any (λ e. same_id id (id_of e) && stays how set events e) events

-- ---- parents

-- what stands for these parents once the commits of the set are gone: one that stays for itself, a removed one by its own parents
abbrev pub stand_for : List AnyId → List PlainEvent → List ℕ → List ℕ
stand_for set events parents = expand_all (is_removed set) (past events) parents

-- the history has the commit, and what stands for the parents that it has there are its parents
abbrev pub HasParentsFor : List AnyId → List PlainEvent → Node → Type 0
HasParentsFor set events n = (old : Node) × (node_at (past events) n.id ≡ Some old) × (stand_for set events old.parents ≡ n.parents)

-- an event as it is, but that a commit has other parents, by those that it has
abbrev pub with_parents : (List ℕ → List ℕ) → PlainEvent → PlainEvent
with_parents parents_of (Commit id mark branch author committer encoding comment parents ops aliases) =
    Commit id mark branch author committer encoding comment (parents_of parents) ops aliases
with_parents parents_of (Blob id mark bytes) = Blob id mark bytes
with_parents parents_of (Tag id name target tagger comment mark) = Tag id name target tagger comment mark
with_parents parents_of (Reset id branch target) = Reset id branch target
with_parents parents_of (Pass id line) = Pass id line

-- the history has the event, and the two differ in nothing else than in those parents
abbrev pub IsOneOn : (List ℕ → List ℕ) → List PlainEvent → PlainEvent → Type 0
IsOneOn parents_of events e = (old : PlainEvent) × (find_event (id_of e) events ≡ Some old) × (with_parents parents_of old ≡ e)
