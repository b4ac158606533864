-- What a call answers that plans an edit of a history. (own)
use Rattle.std.specs.Prelude.{◌≡◌, ℕ, List, Result, Ok, Err}
use Rattle.plain_model.specs.declared.event.PlainEvent.{PlainEvent}
use Rattle.plain_model.specs.declared.fault.Fault.{Fault}
use Rattle.plain_model.specs.declared.fault.Halt.{Halt}
use Rattle.plain_model.specs.declared.fault.Halt.TheVariants as halt
use Rattle.plain_model.specs.Soundness.{IsSound}
use Rattle.event_arena.specs.Graphs.{Change, Graph}

-- the plan for a history that leaves these events and gives no number
abbrev pub leaving : Graph → List PlainEvent → Change
leaving events after = record { before = events.list; after = after; made_at = events.next_id; next = events.next_id }

-- A plan of a history that can be carried out: it was made for it, gives a number next, and leaves a sound list.
pub record IsPlanOf (events : Graph) (number : ℕ) (plan : Change) : Type 0 where
  pub before : plan.before ≡ events.list
  pub made_at : plan.made_at ≡ events.next_id
  pub next : plan.next ≡ number
  pub sound : IsSound plan.after

-- A call plans what is specified for a history and gives a number next, or answers the fault; only memory may be out.
abbrev pub Plans : Graph → ℕ → Result Change Halt → Result (List PlainEvent) Fault → Type 0
Plans events number (Ok plan) specified = (specified ≡ Ok plan.after) × IsPlanOf events number plan
Plans events number (Err (halt.Refused fault)) specified = specified ≡ Err fault
Plans events number (Err halt.Memory) specified = Unit {0}
