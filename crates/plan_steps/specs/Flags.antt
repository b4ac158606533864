-- Flags of a list of events, one for each place: of events with some ids, and of the blobs that operations name.
use Rattle.std.specs.Prelude.{ℕ, ◌≡◌, Bool, true, false, not, ◌||◌, List, length, Option, Some, None, flat_map, slice_get, slice_index_or}
use Rattle.std.specs.List.{list_any}
use Rattle.plain_model.specs.declared.id.AnyId.{AnyId}
use Rattle.plain_model.specs.declared.event.PlainEvent.{PlainEvent}
use Rattle.plain_model.specs.Lookups.{event_ops, id_of, is_listed, op_blobs, place_of}
use Rattle.edit_laws.specs.Sweeping.{is_left_over}
use Rattle.graph_walk.specs.Flags.{is_flagged}

-- the events with these ids get flags, and the others keep theirs
pub record FlagsAdd (events : List PlainEvent) (ids : List AnyId) (old new : List Bool) : Type 0 where
  pub count : length new ≡ length old
  pub more : (k : ℕ) (e : PlainEvent) → slice_get events k ≡ Some e →
      slice_index_or new k false ≡ slice_index_or old k false || is_listed (id_of e) ids

-- the blobs that the operations of an event name
abbrev pub event_blobs : PlainEvent → List AnyId
event_blobs e = flat_map op_blobs (event_ops e)

-- the events that operations of a list name have flags, and no others
pub record FlagsNamed (events named : List PlainEvent) (flags : List Bool) : Type 0 where
  pub count : length flags ≡ length events
  pub flag : (k : ℕ) (e : PlainEvent) → slice_get events k ≡ Some e →
      slice_index_or flags k false ≡ list_any (λ d. is_listed (id_of e) (event_blobs d)) named

-- each event with a flag is named by some event of the list
pub record FlagsSome (events : List PlainEvent) (flags : List Bool) : Type 0 where
  pub count : length flags ≡ length events
  pub flag : (k : ℕ) (e : PlainEvent) → slice_get events k ≡ Some e → slice_index_or flags k false ≡ true →
      list_any (λ d. is_listed (id_of e) (event_blobs d)) events ≡ true

-- each event with one of these ids has a flag
abbrev pub FlagsIds : List PlainEvent → List AnyId → List Bool → Type 0
FlagsIds events ids flags =
    (k : ℕ) (e : PlainEvent) → slice_get events k ≡ Some e → is_listed (id_of e) ids ≡ true → slice_index_or flags k false ≡ true

-- each event that operations of a list name has one
abbrev pub FlagsAll : List PlainEvent → List PlainEvent → List Bool → Type 0
FlagsAll events named flags =
    (k : ℕ) (e : PlainEvent) → slice_get events k ≡ Some e → list_any (λ d. is_listed (id_of e) (event_blobs d)) named ≡ true →
    slice_index_or flags k false ≡ true

-- what has a flag was named before, and each blob that is left over has one
pub record AreCandidates (old new : List PlainEvent) (flags : List Bool) : Type 0 where
  pub count : length flags ≡ length new
  pub named : (k : ℕ) (e : PlainEvent) → slice_get new k ≡ Some e → slice_index_or flags k false ≡ true →
      list_any (λ d. is_listed (id_of e) (event_blobs d)) old ≡ true
  pub over : (k : ℕ) (e : PlainEvent) → slice_get new k ≡ Some e → is_left_over old new e ≡ true → slice_index_or flags k false ≡ true

-- the event is at a place that has a flag
abbrev pub has_flag : List Bool → List PlainEvent → PlainEvent → Bool
has_flag flags events e = is_flagged flags events (id_of e)

-- there is a place, and it has no flag
abbrev pub is_unflagged_at : List Bool → Option ℕ → Bool
is_unflagged_at flags None = false
is_unflagged_at flags (Some place) = not (slice_index_or flags place false)

-- the event with the id is there, and has no flag
abbrev pub is_unflagged : List Bool → List PlainEvent → AnyId → Bool
is_unflagged flags events id = is_unflagged_at flags (place_of id events)

-- what an event names that doesn't pass a test is named after too
abbrev pub OthersKeepNames : (PlainEvent → Bool) → List PlainEvent → List PlainEvent → Type 0
OthersKeepNames test old new = (k : ℕ) (d : PlainEvent) (id : AnyId) → slice_get old k ≡ Some d → test d ≡ false →
    is_listed id (event_blobs d) ≡ true → list_any (λ e. is_listed id (event_blobs e)) new ≡ true

-- and so what one names that isn't one of the set
abbrev pub KeepNames : List AnyId → List PlainEvent → List PlainEvent → Type 0
KeepNames set old new = OthersKeepNames (λ d. is_listed (id_of d) set) old new
