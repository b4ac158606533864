-- Flags of a list of events, one for each place.
use Rattle.std.specs.Prelude.{ℕ, ◌≡◌, Bool, false, ◌||◌, List, [], ◌∷◌, length, map, Option, Some, None, slice_get, slice_index_or, if◌then◌else◌}
use Rattle.plain_model.specs.declared.id.AnyId.{AnyId}
use Rattle.plain_model.specs.declared.id.AnyId.TheVariants as any
use Rattle.plain_model.specs.declared.event.PlainEvent.{PlainEvent}
use Rattle.plain_model.specs.Lookups.{id_of, is_listed, place_of}

-- the flag at a place, if there is one
abbrev pub flag_at : List Bool → Option ℕ → Bool
flag_at flags None = false
flag_at flags (Some place) = slice_index_or flags place false

-- the flag at the place of the event with the id
abbrev pub is_flagged : List Bool → List PlainEvent → AnyId → Bool
is_flagged flags events id = flag_at flags (place_of id events)

-- the flag of a commit
abbrev pub is_flagged_commit : List Bool → List PlainEvent → ℕ → Bool
is_flagged_commit flags events c = is_flagged flags events (any.Commit c)

-- the ids of the events that have a flag, in the order of the list
abbrev pub flagged_ids : List Bool → List PlainEvent → List AnyId
flagged_ids flags [] = []
flagged_ids [] (e ∷ events) = []
flagged_ids (flag ∷ flags) (e ∷ events) = if flag then id_of e ∷ flagged_ids flags events else flagged_ids flags events

-- the event is a commit of these
abbrev pub is_commit_of : List ℕ → PlainEvent → Bool
is_commit_of set e = is_listed (id_of e) (map any.Commit set)

-- the commits of a set get flags, and the others keep theirs
pub record FlagsMore (events : List PlainEvent) (set : List ℕ) (old new : List Bool) : Type 0 where
  pub count : length new ≡ length old
  pub more : (k : ℕ) (e : PlainEvent) → slice_get events k ≡ Some e →
      slice_index_or new k false ≡ slice_index_or old k false || is_commit_of set e

-- the events with these ids have flags, and no others
pub record FlagsOf (events : List PlainEvent) (ids : List AnyId) (flags : List Bool) : Type 0 where
  pub count : length flags ≡ length events
  pub flag : (k : ℕ) (e : PlainEvent) → slice_get events k ≡ Some e →
      slice_index_or flags k false ≡ is_listed (id_of e) ids
