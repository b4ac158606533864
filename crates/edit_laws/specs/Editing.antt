-- What an edit owes: of a lawful history it makes a lawful one. (own)
use Rattle.std.specs.Prelude.{ℕ, ◌≤◌, List, Result, Ok, Err}
use Rattle.plain_model.specs.declared.fault.Fault.{Fault}
use Rattle.plain_model.specs.declared.id.AnyId.{AnyId}
use Rattle.plain_model.specs.declared.event.PlainEvent.{PlainEvent}
use Rattle.plain_model.specs.Lookups.{AreIdsBelow}
use Rattle.plain_model.specs.Soundness.{IsSound}
use Rattle.edit_laws.specs.Passing.{IsWithinLimits}
use Rattle.edit_laws.specs.Selecting.{IsSelection}

-- a sound history with no more events, operations and aliases than one may have
pub record IsLawfulHistory (events : List PlainEvent) : Type 0 where
  pub sound : IsSound events
  pub within : IsWithinLimits events

-- what an edit makes: a history, and the number of the next new event
pub record Remade : Type 0 where
  pub history : List PlainEvent
  pub next : ℕ

-- a history, if it is made, with this number
abbrev pub with_number : ℕ → Result (List PlainEvent) Fault → Result Remade Fault
with_number next (Ok history) = Ok (record { history = history; next = next })
with_number next (Err why) = Err why

-- A lawful history is made, if one is, and no id of it has the number of the next new event, which is no lower than it was.
abbrev pub LeavesLawful : ℕ → Result Remade Fault → Type 0
LeavesLawful next (Ok made) = IsLawfulHistory made.history × AreIdsBelow made.next made.history × (next ≤ made.next)
LeavesLawful next (Err why) = Unit {0}

-- An edit: of a selection, the number of the next new event and a lawful history it makes a lawful one, or is refused.
abbrev pub IsEdit : (List AnyId → ℕ → List PlainEvent → Result Remade Fault) → Type 0
IsEdit edit =
    (set : List AnyId) (next : ℕ) (events : List PlainEvent) → IsLawfulHistory events → AreIdsBelow next events
    → IsSelection events set → LeavesLawful next (edit set next events)
