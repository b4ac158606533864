-- What a `squash` leaves, or why it is refused, in the order of the checks (reposurgeon manual, `squash`; the faults: own).
use Rattle.std.specs.Prelude.{ℕ, Bool, false, ◌==◌, List, [], ◌∷◌, filter, length, nat_lt, Option, Some, None, Result, Ok, Err, if◌then◌else◌}
use Rattle.std.specs.Option.{option_or}
use Rattle.plain_model.specs.declared.id.AnyId.{AnyId}
use Rattle.plain_model.specs.declared.fault.Fault.{Fault}
use Rattle.plain_model.specs.declared.fault.Fault.TheVariants as fault
use Rattle.plain_model.specs.declared.event.PlainEvent.{PlainEvent}
use Rattle.plain_model.specs.declared.event.PlainEvent.TheVariants.{Blob, Commit, Tag, Reset, Pass}
use Rattle.plain_model.specs.Histories.{nodes}
use Rattle.edit_laws.specs.Checking.{tree_check}
use Rattle.edit_laws.specs.Passing.{limit_fault}
use Rattle.squash_laws.specs.Removed.{is_removed}
use Rattle.squash_laws.specs.Takings.{squashed}
use Rattle.plain_model.specs.declared.policy.Lean.TheVariants as lean
use Rattle.plain_model.specs.declared.policy.Push.{Push}
use Rattle.plain_model.specs.declared.policy.Push.TheVariants as push
use Rattle.plain_model.specs.declared.policy.Policy.{Policy}

-- the first parent is this commit
abbrev pub is_first : ℕ → List ℕ → Bool
is_first p [] = false
is_first p (q ∷ parents) = q == p

-- so many commits have it as their first parent
abbrev pub first_children : List PlainEvent → ℕ → ℕ
first_children events p = length (filter (λ n. is_first p n.parents) (nodes events))

module _ (set : List AnyId) (whole : List PlainEvent) where
  -- a commit goes back to its first parent, if it has one, and no other commit has the same first parent
  abbrev pub back_fault : ℕ → List ℕ → Option Fault
  back_fault mark [] = Some (fault.PushbackRoot mark)
  back_fault mark (p ∷ parents) = if nat_lt 1 (first_children whole p) then Some (fault.PushbackFork mark) else None

  -- that of the first removed commit which can't
  abbrev pub first_back_fault : List PlainEvent → Option Fault
  first_back_fault [] = None
  first_back_fault (Commit id mark branch author committer encoding comment parents ops aliases ∷ events) =
      option_or (if is_removed set id then back_fault mark parents else None) (first_back_fault events)
  first_back_fault (Blob id mark bytes ∷ events) = first_back_fault events
  first_back_fault (Tag id name target tagger comment mark ∷ events) = first_back_fault events
  first_back_fault (Reset id branch target ∷ events) = first_back_fault events
  first_back_fault (Pass id line ∷ events) = first_back_fault events

-- of the history as it is: only a push back asks for something
abbrev pub fault_before : Push → List AnyId → List PlainEvent → Option Fault
fault_before push.Back set events = first_back_fault set events events
fault_before push.Forward set events = None
fault_before push.Discard set events = None

-- of the history that is left: its trees, which only a deletion can break
abbrev pub trees_checked : Push → List PlainEvent → Result (Unit {0}) Fault
trees_checked push.Discard new = tree_check new
trees_checked push.Forward new = Ok tt
trees_checked push.Back new = Ok tt

-- the limits come before the trees
abbrev pub checked_after : Push → List PlainEvent → Result (Unit {0}) Fault
checked_after to new = elim (limit_fault new) [ Some why ↦ Err why | None ↦ trees_checked to new ]

-- the history after a squash, or the first fault; settling always comes to its end
abbrev pub squash_of : Policy → List AnyId → List PlainEvent → Result (List PlainEvent) Fault
squash_of how set events = elim (fault_before how.push set events) [
  | Some why ↦ Err why
  | None ↦ elim (squashed set events how) [
    | Ok new ↦ elim (checked_after how.push new) [ Ok done ↦ Ok new | Err why ↦ Err why ]
    | Err never ↦ Ok events
  ]
]
