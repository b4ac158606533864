-- Events by their places: in a list whose ids are distinct, a place and an id name the same event.
use Rattle.std.proofs.Common.{◌≡◌, ◌∙◌, ℕ, zero, suc, ◌<◌, true, inl, inr, List, [], ◌∷◌, Option, Some, None, refl, sym, ap, subst, length}
use Rattle.std.proofs.lemmas.Bool.{cases_Bool}
use Rattle.std.proofs.lemmas.Option.{none-some, same_Some, slice_get_within}
use Rattle.std.specs.Prelude.{option_map, slice_get, is_some}
use Rattle.plain_model.specs.declared.id.AnyId.{AnyId}
use Rattle.plain_model.specs.declared.event.PlainEvent.{PlainEvent}
use Rattle.plain_model.specs.Lookups.{find_event, id_of, place_of, same_id}
use Rattle.plain_model.specs.Soundness.{has_id}
use Rattle.history_laws.proofs.Ids.{place_at, same_id_refl, same_id_true}
use Rattle.history_laws.specs.Once.{AreDistinct}
use Rattle.history_laws.proofs.SoundOnce.{has_id_find}

-- it has a place by its id, and that is found again
pub place_found : (events : List PlainEvent) (k : ℕ) (e : PlainEvent) → slice_get events k ≡ Some e →
    AreDistinct events →
    (place_of (id_of e) events ≡ Some k) × (find_event (id_of e) events ≡ Some e)
place_found [] k e h once = absurd (none-some e h)
place_found (x ∷ xs) zero e h once =
    let is : e ≡ x = same_Some e x (sym h) in
    let own : same_id (id_of e) (id_of x) ≡ true = subst (λ y. same_id (id_of e) (id_of y) ≡ true) is (same_id_refl (id_of e)) in
    rw own (refl, ap Some (sym is))
place_found (x ∷ xs) (suc k) e h once = elim (cases_Bool (same_id (id_of e) (id_of x))) [
  | inl it ↦
      let later = place_found xs k e h once.1 in
      absurd (none-some e (sym once.0 ∙ ap (λ id. find_event id xs) (sym (same_id_true (id_of e) (id_of x) it)) ∙ later.1))
  | inr no_it ↦ let later = place_found xs k e h once.1 in rw no_it (ap (option_map suc) later.0, later.1)
]

-- the event at an id's place has that id
pub record IsPlaced (events : List PlainEvent) (id : AnyId) (place : ℕ) : Type 0 where
  pub event : PlainEvent
  pub at : slice_get events place ≡ Some event
  pub own : id ≡ id_of event

pub event_placed : (events : List PlainEvent) (id : AnyId) (k : ℕ) → place_of id events ≡ Some k → IsPlaced events id k
event_placed events id k h = let there = place_at id events k h in record { event = there.0; at = there.1; own = there.3 }

pub place_within : (events : List PlainEvent) (id : AnyId) (k : ℕ) → place_of id events ≡ Some k → k < length events
place_within events id k h = let e = event_placed events id k h in slice_get_within events k e.event e.at

-- what is there has a place
pub has_id_place : (events : List PlainEvent) (id : AnyId) → has_id events id ≡ is_some (place_of id events)
has_id_place events id = has_id_find events id ∙ same events
  where
    same : (es : List PlainEvent) → is_some (find_event id es) ≡ is_some (place_of id es)
    same [] = refl
    same (x ∷ xs) = elim (cases_Bool (same_id id (id_of x))) [
      | inl it ↦ rw it refl
      | inr no_it ↦ rw no_it (same xs ∙ kept (place_of id xs))
    ]
      where
        kept : (o : Option ℕ) → is_some o ≡ is_some (option_map suc o)
        kept None = refl
        kept (Some k) = refl
