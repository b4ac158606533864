-- How a history and a plan are seen. (own)
use Rattle.std.specs.Prelude.{ℕ, List}
use Rattle.plain_model.specs.declared.event.PlainEvent.{PlainEvent}

-- a history: ids whose numbers are below next_id are spent; slots are the places for events that it keeps; room is for
-- the events, referents and marks of a list
pub record Graph : Type 0 where
  pub list : List PlainEvent
  pub next_id : ℕ
  pub slots : ℕ
  pub room : ℕ

-- a plan: the list before and after, the next_id that it was made at, and the number that it gives next
pub record Change : Type 0 where
  pub before : List PlainEvent
  pub after : List PlainEvent
  pub made_at : ℕ
  pub next : ℕ
