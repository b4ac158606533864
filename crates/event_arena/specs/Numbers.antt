-- Events by their numbers. (own)
use Rattle.std.specs.Prelude.{ℕ, ◌-◌, ◌==◌, List, Option, None, slice_get, if◌then◌else◌}
use Rattle.plain_model.specs.declared.event.PlainEvent.{PlainEvent}

-- the event with the number, from 1
abbrev pub numbered : ℕ → List PlainEvent → Option PlainEvent
numbered n events = if n == 0 then None else slice_get events (n - 1)
