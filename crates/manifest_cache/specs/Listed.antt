-- A list of events, wherever it is held. (own)
use Rattle.std.specs.Prelude.{List}
use Rattle.plain_model.specs.declared.event.PlainEvent.{PlainEvent}
use Rattle.manifest_cache.specs.declared.listed.Listed.{Listed}
use Rattle.manifest_cache.specs.declared.listed.Listed.TheVariants.{After, Before, History}

abbrev pub events_of : Listed → List PlainEvent
events_of (History events) = events.now.list
events_of (Before plan) = plan.now.before
events_of (After plan) = plan.now.after
