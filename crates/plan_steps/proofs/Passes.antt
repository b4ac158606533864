-- How the list of a plan goes on, while one event after another gets what becomes of it.
use Rattle.std.proofs.Common.{◌≡◌, ◌∙◌, ℕ, suc, ◌≤◌, Bool, true, false, inl, inr, List, [], ◌∷◌, ◌++◌, Some, None, refl, sym, ap, subst, length, take, drop, map, filter, append_assoc, append-nil}
use Rattle.std.proofs.lemmas.Bool.{cases_Bool, cond-false, cond-true}
use Rattle.std.proofs.lemmas.List.{take-append-drop}
use Rattle.std.specs.Prelude.{slice_get}
use Rattle.std.proofs.lemmas.List.Elements.{filter-append}
use Rattle.plain_model.specs.declared.id.AnyId.{AnyId}
use Rattle.plain_model.specs.declared.event.PlainEvent.{PlainEvent}
use Rattle.plain_model.specs.Lookups.{find_event, id_of, same_id}
use Rattle.history_laws.proofs.Ids.{absent_cons, cons_absent}
use Rattle.event_arena.specs.Changes.{changed}
use Rattle.history_laws.specs.Once.{AreDistinct}
use Rattle.event_arena.proofs.ListLemmas.{drop_item, take_all, take_item}
use Rattle.event_arena.proofs.OnceLemmas.{distinct_absent}
use Rattle.event_arena.proofs.StepLemmas.{changed_after, map_push, none_left}
use Rattle.plan_steps.specs.Passes.{so_far}

-- ---- an event between others

-- what isn't there isn't there among what was changed or left
pub absent_mapped : (f : PlainEvent → PlainEvent) → ((e : PlainEvent) → id_of (f e) ≡ id_of e) → (id : AnyId) (es : List PlainEvent) →
    find_event id es ≡ None → find_event id (map f es) ≡ None
absent_mapped f same id [] h = refl
absent_mapped f same id (x ∷ es) h =
    let rest = absent_cons id x es h in
    cons_absent id (f x) (map f es) (ap (same_id id) (same x) ∙ rest.0) (absent_mapped f same id es rest.1)

pub absent_filtered : (test : PlainEvent → Bool) (id : AnyId) (es : List PlainEvent) → find_event id es ≡ None →
    find_event id (filter test es) ≡ None
absent_filtered test id [] h = refl
absent_filtered test id (x ∷ es) h =
    let rest = absent_cons id x es h in
    elim (cases_Bool (test x)) [
      | inl it ↦ rw it (cons_absent id x (filter test es) rest.0 (absent_filtered test id es rest.1))
      | inr no_it ↦ rw no_it (absent_filtered test id es rest.1)
    ]

pub filter_kept : (keep : PlainEvent → Bool) (e : PlainEvent) (ys : List PlainEvent) → keep e ≡ true → filter keep (e ∷ ys) ≡ e ∷ filter keep ys
filter_kept keep e ys stays = cond-true (keep e) (e ∷ filter keep ys) (filter keep ys) stays

pub filter_gone : (keep : PlainEvent → Bool) (e : PlainEvent) (ys : List PlainEvent) → keep e ≡ false → filter keep (e ∷ ys) ≡ filter keep ys
filter_gone keep e ys gone = cond-false (keep e) (e ∷ filter keep ys) (filter keep ys) gone

-- ---- of a list of events those that stay, the first of which have become what they become

module _ (keep : PlainEvent → Bool) (p g : PlainEvent → PlainEvent) where
  -- all of them
  pub so_far_all : (k : ℕ) (events : List PlainEvent) → length events ≤ k → so_far keep p g k events ≡ map g (filter keep events)
  so_far_all k events h =
      ap (λ (xs : List PlainEvent). map g (filter keep xs) ++ map p (filter keep (drop k events))) (take_all events k h)
      ∙ ap (λ (ys : List PlainEvent). map g (filter keep events) ++ map p (filter keep ys)) (none_left k events h)
      ∙ append-nil (map g (filter keep events))

  module _ (events : List PlainEvent) (k : ℕ) (e : PlainEvent) (is : slice_get events k ≡ Some e) where
    abbrev front : List PlainEvent
    front = filter keep (take k events)

    abbrev rest : List PlainEvent
    rest = filter keep (drop (suc k) events)

    here : so_far keep p g k events ≡ map g front ++ map p (filter keep (e ∷ drop (suc k) events))
    here = ap (λ (ys : List PlainEvent). map g front ++ map p (filter keep ys)) (drop_item events k e is)

    further : so_far keep p g (suc k) events ≡ map g (front ++ filter keep (e ∷ [])) ++ map p rest
    further =
        ap (λ (xs : List PlainEvent). map g (filter keep xs) ++ map p rest) (take_item events k e is)
        ∙ ap (λ (xs : List PlainEvent). map g xs ++ map p rest) (filter-append keep (take k events) (e ∷ []))

    -- one that goes
    pub step_gone : keep e ≡ false → so_far keep p g k events ≡ so_far keep p g (suc k) events
    step_gone gone =
        let now : map g front ++ map p (filter keep (e ∷ drop (suc k) events)) ≡ map g front ++ map p rest =
        ap (λ (ys : List PlainEvent). map g front ++ map p ys) (filter_gone keep e (drop (suc k) events) gone) in
        let then_ : map g (front ++ filter keep (e ∷ [])) ++ map p rest ≡ map g front ++ map p rest =
        ap (λ (xs : List PlainEvent). map g (front ++ xs) ++ map p rest) (filter_gone keep e [] gone)
        ∙ ap (λ (xs : List PlainEvent). map g xs ++ map p rest) (append-nil front) in
        here ∙ now ∙ sym (further ∙ then_)

    -- one that stays is the last of those in front
    kept_further : keep e ≡ true → map g front ++ g e ∷ map p rest ≡ so_far keep p g (suc k) events
    kept_further stays =
        let whole : map g (front ++ filter keep (e ∷ [])) ++ map p rest ≡ map g front ++ g e ∷ map p rest =
        ap (λ (xs : List PlainEvent). map g (front ++ xs) ++ map p rest) (filter_kept keep e [] stays)
        ∙ ap (λ (xs : List PlainEvent). xs ++ map p rest) (map_push g front e)
        ∙ append_assoc (map g front) (g e ∷ []) (map p rest) in
        sym (further ∙ whole)

    at_hand : keep e ≡ true → so_far keep p g k events ≡ map g front ++ p e ∷ map p rest
    at_hand stays = here ∙ ap (λ (ys : List PlainEvent). map g front ++ map p ys) (filter_kept keep e (drop (suc k) events) stays)

    -- one that has become it already
    pub step_same : g e ≡ p e → so_far keep p g k events ≡ so_far keep p g (suc k) events
    step_same same = elim (cases_Bool (keep e)) [
      | inl stays ↦
          at_hand stays ∙ ap (λ (x : PlainEvent). map g front ++ x ∷ map p rest) (sym same) ∙ kept_further stays
      | inr gone ↦ step_gone gone
    ]

    module _ (once : AreDistinct events) (p_id : (x : PlainEvent) → id_of (p x) ≡ id_of x) (g_id : (x : PlainEvent) → id_of (g x) ≡ id_of x) (stays : keep e ≡ true) where
      absent : find_event (id_of (p e)) (map g front) ≡ None
      absent =
          let parts : events ≡ take k events ++ e ∷ drop (suc k) events =
          sym (take-append-drop k events) ∙ ap (λ (ys : List PlainEvent). take k events ++ ys) (drop_item events k e is) in
          let before = distinct_absent (take k events) (drop (suc k) events) e (subst AreDistinct parts once) in
          ap (λ id. find_event id (map g front)) (p_id e)
          ∙ absent_mapped g g_id (id_of e) front (absent_filtered keep (id_of e) (take k events) before)

      -- and changed
      pub step_changed : (f : PlainEvent → PlainEvent) → f (p e) ≡ g e → changed (id_of e) f (so_far keep p g k events) ≡ so_far keep p g (suc k) events
      step_changed f is_g =
          ap (λ id. changed id f (so_far keep p g k events)) (sym (p_id e))
          ∙ ap (changed (id_of (p e)) f) (at_hand stays)
          ∙ changed_after f (map g front) (map p rest) (p e) absent
          ∙ ap (λ (x : PlainEvent). map g front ++ x ∷ map p rest) is_g
          ∙ kept_further stays
