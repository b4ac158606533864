-- What is left before it is settled, and the limits of it.
use Rattle.std.specs.Prelude.{ℕ, ◌≡◌, ◌<◌, ◌≤◌, Bool, true, false, not, List, length, map, nat_lt, Option, Some, None, slice_get, if◌then◌else◌}
use Rattle.plain_model.specs.declared.id.AnyId.{AnyId}
use Rattle.plain_model.specs.declared.limit.TheConstants.{MAX_ALIASES, MAX_EVENTS, MAX_OPERATIONS, MAX_PARENTS}
use Rattle.plain_model.specs.declared.fault.Fault.{Fault}
use Rattle.plain_model.specs.declared.fault.Fault.TheVariants as fault
use Rattle.plain_model.specs.declared.fault.Which.TheVariants as limit
use Rattle.plain_model.specs.declared.event.PlainEvent.{PlainEvent}
use Rattle.plain_model.specs.Histories.{nodes}
use Rattle.plain_model.specs.Lookups.{alias_count}
use Rattle.event_arena.specs.Graphs.{Change}
use Rattle.history_laws.specs.FirstParents.{ops_along}
use Rattle.edit_laws.specs.Sweeping.{swept}
use Rattle.graph_walk.specs.Expansions.{AreFew, parent_changes}
use Rattle.squash_laws.specs.Removed.{Takings, parents_after}
use Rattle.plan_steps.specs.Leaving.{event_after, staying}
use Rattle.squash_delete.specs.declared.counting.Left.{Left}
use Rattle.squash_delete.specs.declared.counting.Left.TheVariants.{All, ManyOperations}

-- some commit gets more parents than a commit can have
abbrev pub AreMany : List (ℕ × List ℕ) → Type 0
AreMany changes = (k : ℕ) × (change : ℕ × List ℕ) × (slice_get changes k ≡ Some change) × (MAX_PARENTS < length change.1)

-- The parents that the commits of what is left have: theirs, where each commit gets few enough, and else those that they had.
abbrev pub ParentsAre : List AnyId → List PlainEvent → Takings → Bool → (List ℕ → List ℕ) → Type 0
ParentsAre set events takes true parents_of = (parents_of ≡ parents_after set events takes) × AreFew (parent_changes events set)
ParentsAre set events takes false parents_of = (parents_of ≡ (λ parents. parents)) × AreMany (parent_changes events set)

-- what is left, swept, with one or the other parents
abbrev pub IsLeft : List AnyId → List PlainEvent → Takings → Bool → List PlainEvent → Type 0
IsLeft set events takes few left =
    (parents_of : List ℕ → List ℕ) × ParentsAre set events takes few parents_of
    × (left ≡ swept events (map (event_after parents_of takes) (staying set takes events)))

-- the first limit that it passes
abbrev pub limit_passed : Bool → List PlainEvent → Option Fault
limit_passed few left =
    if nat_lt MAX_EVENTS (length left) then Some (fault.Limit limit.Events MAX_EVENTS)
    else if nat_lt MAX_OPERATIONS (length (ops_along (nodes left))) then Some (fault.Limit limit.Operations MAX_OPERATIONS)
    else if not few then Some (fault.Limit limit.Parents MAX_PARENTS)
    else if nat_lt MAX_ALIASES (alias_count left) then Some (fault.Limit limit.Aliases MAX_ALIASES)
    else None

-- the first limit that is passed by what is left
abbrev pub judged : Left → List PlainEvent → Option Fault
judged (All few) left = limit_passed few left
judged ManyOperations left = Some (fault.Limit limit.Operations MAX_OPERATIONS)

-- What a plan leaves: all is left in it, or there are too many operations and not too many events.
abbrev pub IsLeftOf : List AnyId → List PlainEvent → Takings → Change → Left → Change → Type 0
IsLeftOf set events takes old (All few) new = (new ≡ record old { after = new.after }) × IsLeft set events takes few new.after
IsLeftOf set events takes old ManyOperations new =
    (few : Bool) × (left : List PlainEvent) × IsLeft set events takes few left
    × (length left ≤ MAX_EVENTS) × (MAX_OPERATIONS < length (ops_along (nodes left)))
