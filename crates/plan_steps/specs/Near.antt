-- The events near a set: those of it, and those that refer to one of its commits. The others stay as they are.
use Rattle.std.specs.Prelude.{ℕ, ◌≡◌, ◌<◌, ◌≤◌, Bool, true, false, ◌||◌, List, [], ◌∷◌, length, map, take, Option, Some, option_map, slice_get, slice_index_or, if◌then◌else◌, IfSome, Vec}
use Rattle.std.specs.List.{list_any}
use Rattle.std.specs.Option.{option_map_or}
use Rattle.plain_model.specs.declared.id.AnyId.{AnyId}
use Rattle.plain_model.specs.declared.event.PlainEvent.{PlainEvent}
use Rattle.plain_model.specs.Lookups.{event_parents, find_event, id_of, is_listed, place_of}
use Rattle.plain_model.specs.Soundness.{IsSound}
use Rattle.edit_laws.specs.Settling.{is_ready}
use Rattle.graph_walk.specs.Flags.{FlagsOf, is_flagged_commit}
use Rattle.squash_laws.specs.Removed.{is_removed}
use Rattle.plan_steps.specs.Targets.{target_for}

-- the event is a tag or a reset on such a commit
abbrev pub is_on : (ℕ → Bool) → PlainEvent → Bool
is_on of e = option_map_or of (target_for Some e) false

-- it is one of the set, or a child of a removed commit, or a tag or a reset on one
abbrev pub is_near : List AnyId → PlainEvent → Bool
is_near set e = is_listed (id_of e) set || (list_any (is_removed set) (event_parents e) || is_on (is_removed set) e)

-- an event's id, and the commits that it refers to
pub record Link : Type 0 where
  pub id : AnyId
  pub parents : List ℕ
  pub target : Option ℕ

abbrev pub link_of : PlainEvent → Link
link_of e = record { id = id_of e; parents = event_parents e; target = target_for Some e }

-- the same ids in one order, and the same parents and targets: near in one list is near in the other
abbrev pub AreLinkedAlike : List PlainEvent → List PlainEvent → Type 0
AreLinkedAlike old new = map link_of new ≡ map link_of old

-- where an event has no flag, it isn't near
pub record AreNear (set : List AnyId) (events : List PlainEvent) (near : List Bool) : Type 0 where
  pub count : length near ≡ length events
  pub apart : (k : ℕ) (e : PlainEvent) → slice_get events k ≡ Some e → slice_index_or near k false ≡ false → is_near set e ≡ false

-- each place is before the next one
abbrev pub AreRising : List ℕ → Type 0
AreRising places = (i j : ℕ) → i < j → j < length places → slice_index_or places i 0 < slice_index_or places j 0

-- the place is one of them
abbrev pub IsPlaceOf : List ℕ → ℕ → Type 0
IsPlaceOf places k = (i : ℕ) × (i < length places) × (slice_index_or places i 0 ≡ k)

-- they are those that have a flag, in order
pub record ArePlacesOf (flags : List Bool) (places : List ℕ) : Type 0 where
  pub rising : AreRising places
  pub flagged : (i : ℕ) → i < length places → slice_index_or flags (slice_index_or places i 0) false ≡ true
  pub all : (k : ℕ) → slice_index_or flags k false ≡ true → IsPlaceOf places k

-- places of a history in order, at which all near events are
pub record ArePlacesNear (set : List AnyId) (events : List PlainEvent) (places : List ℕ) : Type 0 where
  pub rising : AreRising places
  pub within : (i : ℕ) → i < length places → slice_index_or places i 0 < length events
  pub apart : (k : ℕ) (e : PlainEvent) → slice_get events k ≡ Some e → ¬ IsPlaceOf places k → is_near set e ≡ false

-- places that are known, if they are
abbrev pub places_in : {A : Type 0} → Option (Vec ℕ A) → Option (List ℕ)
places_in near = option_map (λ places. places.items) near

-- a sound list, flags of the set, and the places of what is near, where they are known
pub record AreFlagged (set : List AnyId) (events : List PlainEvent) (flags : List Bool) (near : Option (List ℕ)) : Type 0 where
  pub sound : IsSound events
  pub own : FlagsOf events set flags
  pub around : IfSome near (ArePlacesNear set events)

-- no event of these places is near
abbrev pub NoneNear : List AnyId → List PlainEvent → ℕ → ℕ → Type 0
NoneNear set events from to =
    (k : ℕ) (e : PlainEvent) → from ≤ k → k < to → slice_get events k ≡ Some e → is_near set e ≡ false

-- the id, if it is that of a tag or a reset on a commit with a flag
abbrev pub on_flagged : List Bool → List PlainEvent → AnyId → List AnyId
on_flagged flags events id =
    if option_map_or (is_on (is_flagged_commit flags events)) (find_event id events) false then id ∷ [] else []

-- what is left of each event near the set is after all that it refers to
abbrev pub AreReadyNear : List AnyId → List PlainEvent → List PlainEvent → Type 0
AreReadyNear set events left =
    (k p : ℕ) (e d : PlainEvent) → slice_get events k ≡ Some e → is_near set e ≡ true → place_of (id_of e) left ≡ Some p →
    slice_get left p ≡ Some d → is_ready (take p left) d ≡ true
