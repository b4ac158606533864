-- Events of a set, by their places in its list; and what a sound history says of an event at a place.
use Rattle.std.proofs.Common.{◌≡◌, ℕ, zero, suc, true, List, [], ◌∷◌, ◌++◌, inl, inr, Some, refl, IsSome}
use Rattle.std.specs.Prelude.{option_to_list, slice_get}
use Rattle.std.proofs.lemmas.Bool.{cases_Bool}
use Rattle.plain_model.specs.Lookups.{find_event, id_of, same_id}
use Rattle.plain_model.specs.Soundness.{AreSoundAfter, IsSound}
use Rattle.plain_model.specs.declared.id.AnyId.{AnyId}
use Rattle.plain_model.specs.declared.event.PlainEvent.{PlainEvent}
use Rattle.history_laws.specs.Finding.{IsDated}
use Rattle.history_laws.proofs.SoundDates.{dated_event}
use Rattle.event_sets.specs.Once.{AreLive}
use Rattle.event_sets.specs.Sets.{Ids, is_live}
use Rattle.selection_eval.specs.Spots.{first}

-- ---- lists

pub first_at : (ids : Ids) → option_to_list (slice_get ids 0) ≡ first ids
first_at [] = refl
first_at (id ∷ ids) = refl

pub live_found : (id : AnyId) (events : List PlainEvent) → is_live events id ≡ true → IsSome (find_event id events)
live_found id [] h = absurd cc
live_found id (e ∷ events) h =
    elim (cases_Bool (same_id id (id_of e))) [
      | inl is ↦ rw is refl
      | inr isnt ↦ rw isnt (live_found id events (rw isnt at h))
    ]

-- what is in a list of live events is found
pub found_live : (events : List PlainEvent) (ids : Ids) (k : ℕ) (id : AnyId) → AreLive events ids
    → slice_get ids k ≡ Some id → IsSome (find_event id events)
found_live events [] zero id h k = absurd cc
found_live events [] (suc n) id h k = absurd cc
found_live events (x ∷ ids) zero id h k = let is : x ≡ id = cc in live_found id events (rw is at h.0)
found_live events (x ∷ ids) (suc n) id h k = found_live events ids n id h.1 k

-- ---- dates

dated_after : (earlier events : List PlainEvent) (k : ℕ) (e : PlainEvent) → AreSoundAfter earlier events
    → slice_get events k ≡ Some e → IsDated e
dated_after earlier [] zero e h k = absurd cc
dated_after earlier [] (suc n) e h k = absurd cc
dated_after earlier (x ∷ events) zero e h k = let is : x ≡ e = cc in dated_event earlier e (rw is at h.0)
dated_after earlier (x ∷ events) (suc n) e h k = dated_after (earlier ++ x ∷ []) events n e h.1 k

pub dated_at : (events : List PlainEvent) (k : ℕ) (e : PlainEvent) → IsSound events → slice_get events k ≡ Some e
    → IsDated e
dated_at events k e h is = dated_after [] events k e h.formed is
