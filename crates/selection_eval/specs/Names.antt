-- The names that lists of events are assigned to, in the order in which they came. (reposurgeon manual, `assign`)
use Rattle.std.specs.Prelude.{ℕ, bytes_eq, List, map, Option, Vec}
use Rattle.std.specs.Map.{lookup}
use Rattle.plain_model.specs.Paths.{Bytes}
use Rattle.plain_model.specs.declared.id.AnyId.{AnyId}
use Rattle.plain_model.specs.declared.event.PlainEvent.{PlainEvent}
use Rattle.event_sets.specs.Sets.{Ids, live}

abbrev pub Names : Type 0
Names = List (Bytes × Ids)

-- the list that is assigned to a name
abbrev pub assigned : Bytes → Names → Option Ids
assigned name names = lookup (bytes_eq name) names

-- each list without the ids that are no events of the history
abbrev pub live_names : List PlainEvent → Names → Names
live_names events names = map (λ n. (n.0, live events n.1)) names

-- the entries of a map, as names with their lists
abbrev pub names_of : {A : Type 0} → List (Vec ℕ A × Vec AnyId A) → Names
names_of entries = map (λ e. (e.0.items, e.1.items)) entries
