-- What is true while a list is being settled: the order so far, flags for what is taken, the places that are ready, those
-- that wait, and how many places were looked at.
use Rattle.std.specs.Prelude.{ℕ, ◌≡◌, ◌<◌, ◌≤◌, ◌⊎◌, Bool, true, false, List, [], ◌∷◌, length, Some, find, slice_get, slice_index_or}
use Rattle.plain_model.specs.declared.id.AnyId.{AnyId}
use Rattle.plain_model.specs.declared.event.PlainEvent.{PlainEvent}
use Rattle.plain_model.specs.Lookups.{is_listed, referents_of}
use Rattle.graph_walk.specs.Flags.{is_flagged}
use Rattle.graph_walk.specs.Slots.{IsOpenAt, are_flagged, is_flagged_until}
use Rattle.graph_walk.specs.Taking.{can_be_taken}
use Rattle.graph_walk.specs.Waiters.{IsIn, is_among}
use Rattle.graph_walk.specs.declared.waiting.Waiter.{Waiter}
use Rattle.graph_walk.specs.declared.settling.Progress.{Progress}

-- one of the first places, and all that the event there refers to is flagged
abbrev pub IsFree : List Bool → List PlainEvent → ℕ → ℕ → Type 0
IsFree flags events next place =
    (place < next) × ((e : PlainEvent) → slice_get events place ≡ Some e → are_flagged flags events (referents_of e) ≡ true)

-- one of the first places, and what the event there names in the slots before the waiter's is flagged
abbrev pub HasBegun : List Bool → List PlainEvent → ℕ → Waiter → Type 0
HasBegun flags events next w =
    (w.place < next) × ((e : PlainEvent) → slice_get events w.place ≡ Some e → is_flagged_until flags events e w.slot ≡ true)

-- one of the first places, and the waiter's slot names the event at a place without a flag
abbrev pub IsHeld : List Bool → List PlainEvent → ℕ → Waiter → ℕ → Type 0
IsHeld flags events next w place =
    (w.place < next) × ((e : PlainEvent) → slice_get events w.place ≡ Some e → IsOpenAt flags events e w.slot place)

-- the place is among those that are ready, or someone waits there, or it is among the rest
abbrev pub IsKept : List ℕ → List (List Waiter) → List Waiter → ℕ → Type 0
IsKept ready waiting rest place =
    (is_among place ready ≡ true)
    ⊎ (((at : ℕ) × (w : Waiter) × IsIn w (slice_index_or waiting at []) × (w.place ≡ place))
    ⊎ ((w : Waiter) × IsIn w rest × (w.place ≡ place)))

-- the parts agree with each other; the rest is neither ready nor waits
pub record AreInStep (events : List PlainEvent) (rest : List Waiter) (order : List AnyId) (flags : List Bool) (ready : List ℕ) (waiting : List (List Waiter)) (next : ℕ) : Type 0 where
  pub flag_count : length flags ≡ length events
  pub row_count : length waiting ≡ length events
  pub within : next ≤ length events
  pub taken : (id : AnyId) → is_listed id order ≡ is_flagged flags events id
  pub later : (k : ℕ) → next ≤ k → slice_index_or flags k false ≡ false
  pub free : (k : ℕ) → is_among k ready ≡ true → IsFree flags events next k
  pub held : (at : ℕ) (w : Waiter) → IsIn w (slice_index_or waiting at []) → IsHeld flags events next w at
  pub begun : (w : Waiter) → IsIn w rest → HasBegun flags events next w
  pub kept : (k : ℕ) → k < next → slice_index_or flags k false ≡ false → IsKept ready waiting rest k

-- the same of what a settling keeps
abbrev pub IsUnderWay : List Waiter → Progress → Type 0
IsUnderWay rest s = AreInStep s.plan.now.after rest s.order s.taken.items s.ready s.waiting s.next

-- this place is at hand: the event there isn't taken, all that it refers to is, and it is before all that are ready
pub record ComesToHand (s : Progress) (place : ℕ) : Type 0 where
  pub at_hand : IsUnderWay (record { place = place; slot = 0 } ∷ []) s
  pub untaken : slice_index_or s.taken.items place false ≡ false
  pub free : IsFree s.taken.items s.plan.now.after s.next place
  pub first : (k : ℕ) → is_among k s.ready ≡ true → place < k

-- this place is at hand, and the event there is taken next
pub record IsTakenNext (s : Progress) (place : ℕ) : Type 0 where
  pub at_hand : IsUnderWay (record { place = place; slot = 0 } ∷ []) s
  pub event : PlainEvent
  pub there : slice_get s.plan.now.after place ≡ Some event
  pub earliest : find (can_be_taken s.order) s.plan.now.after ≡ Some event
