-- Where a commit is in a history, and on what it is.
use Rattle.std.specs.Prelude.{ℕ, List, [], unwrap_or}
use Rattle.std.specs.Option.{option_map_or}
use Rattle.plain_model.specs.declared.id.AnyId.TheVariants as any
use Rattle.plain_model.specs.declared.event.PlainEvent.{PlainEvent}
use Rattle.plain_model.specs.Lookups.{event_parents, find_event, number_of}

-- the parents of the commit with the id
abbrev pub parents_at : List PlainEvent → ℕ → List ℕ
parents_at events c = option_map_or event_parents (find_event (any.Commit c) events) []

-- its number in the list, from 1, and 0 for one that isn't there
abbrev pub depth : List PlainEvent → ℕ → ℕ
depth events c = unwrap_or (number_of (any.Commit c) events) 0
