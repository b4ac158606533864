-- A history and a set of its events.
use Rattle.std.specs.Prelude.{List}
use Rattle.plain_model.specs.declared.id.AnyId.{AnyId}
use Rattle.plain_model.specs.declared.event.PlainEvent.{PlainEvent}

pub record Chosen : Type 0 where
  pub events : List PlainEvent
  pub set : List AnyId
