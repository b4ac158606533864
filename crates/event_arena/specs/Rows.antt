-- The rows of a table, the events that they name, and the places that are noted for those. (own)
use Rattle.std.specs.Prelude.{◌≡◌, ◌==◌, ◌≤◌, ℕ, List, flat_map, map, Option, Some, option_to_list, IfSome, slice_get, slice_index_or, if◌then◌else◌}
use Rattle.std.specs.List.{AllZip}
use Rattle.std.specs.declared.rc.Rc.{Rc}
use Rattle.plain_model.specs.declared.id.AnyId.{AnyId}
use Rattle.plain_model.specs.declared.id.AnyId.TheVariants as any
use Rattle.plain_model.specs.declared.event.PlainEvent.{PlainEvent}
use Rattle.plain_model.specs.Lookups.{id_of, place_of, same_id}
use Rattle.event_arena.specs.declared.places.Places.{Places}
use Rattle.event_arena.specs.declared.store.Row.{Row}
use Rattle.history_laws.specs.Once.{AreDistinct}
use Rattle.event_arena.specs.Weights.{weight_of}

-- the events behind these pointers
abbrev pub events_of : {A : Type 0} → List (Rc PlainEvent A) → List PlainEvent
events_of rows = map (λ r. r.value) rows

-- a row names an event, by its number in the store and by its id
abbrev pub Names : List PlainEvent → Row → PlainEvent → Type 0
Names stored row event = (slice_get stored row.at ≡ Some event) × (id_of event ≡ row.id)

-- each row names the event in its place
abbrev pub NameAll : List PlainEvent → List Row → List PlainEvent → Type 0
NameAll stored rows events = AllZip (Names stored) rows events

-- the events that the rows name, in the order of the rows
abbrev pub in_rows : List PlainEvent → List Row → List PlainEvent
in_rows stored rows = flat_map (λ row. option_to_list (slice_get stored row.at)) rows

-- the place that is noted for an id, or 0; ids of each kind have numbers of their own
abbrev pub noted : Places → AnyId → ℕ
noted s (any.Blob n) = slice_index_or s.blobs.items n 0
noted s (any.Commit n) = slice_index_or s.commits.items n 0
noted s (any.Tag n) = slice_index_or s.tags n 0
noted s (any.Reset n) = slice_index_or s.resets n 0
noted s (any.Pass n) = slice_index_or s.passes.items n 0

-- the place under one number is changed, and no other
abbrev pub IsNotedAt : ℕ → ℕ → List ℕ → List ℕ → Type 0
IsNotedAt number place old new = (n : ℕ) → slice_index_or new n 0 ≡ (if n == number then place else slice_index_or old n 0)

-- the place of one id is changed, and no other
abbrev pub IsNoted : AnyId → ℕ → Places → Places → Type 0
IsNoted id place old new = (other : AnyId) → noted new other ≡ (if same_id other id then place else noted old other)

-- the place of each id that is there is noted
abbrev pub IsPlaced : Places → List PlainEvent → Type 0
IsPlaced places events = (id : AnyId) (k : ℕ) → place_of id events ≡ Some k → noted places id ≡ k

-- rows that name these events, no two with one id, and a bound of what the events weigh
pub record AreRows (stored : List PlainEvent) (rows : List Row) (weight : Option ℕ) (events : List PlainEvent) : Type 0 where
  pub named : NameAll stored rows events
  pub once : AreDistinct events
  pub bound : IfSome weight (λ most. weight_of events ≤ most)

-- a table of these events: its rows, and where they are
pub record IsTable (stored : List PlainEvent) (rows : List Row) (places : Places) (weight : Option ℕ) (events : List PlainEvent) : Type 0 where
  pub listed : AreRows stored rows weight events
  pub placed : IsPlaced places events
