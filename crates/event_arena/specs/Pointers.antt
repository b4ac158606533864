-- Tags and resets: the events that are on a commit. (own)
use Rattle.std.specs.Prelude.{◌≡◌, ◌≤◌, ℕ, Bool, true, false, List, Some, slice_index_or}
use Rattle.std.specs.List.{Contains}
use Rattle.plain_model.specs.declared.id.AnyId.{AnyId}
use Rattle.plain_model.specs.declared.id.AnyId.TheVariants as any
use Rattle.plain_model.specs.declared.event.PlainEvent.{PlainEvent}
use Rattle.plain_model.specs.Lookups.{is_listed, place_of}
use Rattle.event_arena.specs.declared.places.ListedPlaces.TheInside as listed
use Rattle.event_arena.specs.declared.places.Places.{Places}
use Rattle.event_arena.specs.Rows.{noted}

abbrev pub is_pointer : AnyId → Bool
is_pointer (any.Tag n) = true
is_pointer (any.Reset n) = true
is_pointer (any.Blob n) = false
is_pointer (any.Commit n) = false
is_pointer (any.Pass n) = false

-- the ids of all tags and resets of a history are among these
abbrev pub HasPointers : List AnyId → List PlainEvent → Type 0
HasPointers ids events = (id : AnyId) (k : ℕ) → is_pointer id ≡ true → place_of id events ≡ Some k → is_listed id ids ≡ true

-- the ids of one list are among those of another
abbrev pub AreAmong : List AnyId → List AnyId → Type 0
AreAmong few many = (id : AnyId) → is_listed id few ≡ true → is_listed id many ≡ true

-- the tags for which another place than the first is noted are among these
abbrev pub HasNotedTags : Places → List AnyId → Type 0
HasNotedTags places ids = (n : ℕ) → 1 ≤ noted places (any.Tag n) → is_listed (any.Tag n) ids ≡ true

-- the same of resets
abbrev pub HasNotedResets : Places → List AnyId → Type 0
HasNotedResets places ids = (n : ℕ) → 1 ≤ noted places (any.Reset n) → is_listed (any.Reset n) ids ≡ true

-- each number under which another place than the first is noted is among the numbers
abbrev pub AreNumbered : listed.Inside → Type 0
AreNumbered s = (n : ℕ) → 1 ≤ slice_index_or s.places.items n 0 → Contains s.numbers.items n
