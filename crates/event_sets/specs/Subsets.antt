-- How a set is seen. (own)
use Rattle.std.specs.Prelude.{List}
use Rattle.plain_model.specs.declared.event.PlainEvent.{PlainEvent}
use Rattle.event_sets.specs.Sets.{Ids}

-- the events of a history, and a list of some of them
pub record Subset : Type 0 where
  pub events : List PlainEvent
  pub ids : Ids
