-- Which ids a change of a list can add.
use Rattle.std.proofs.Common.{◌≡◌, ◌∙◌, Bool, inl, inr, List, [], ◌∷◌, ◌++◌, Option, Some, None, refl, ap, sym, filter}
use Rattle.std.proofs.lemmas.Bool.{cases_Bool}
use Rattle.std.proofs.lemmas.Option.{none-some}
use Rattle.std.specs.Prelude.{option_to_list}
use Rattle.plain_model.specs.declared.id.AnyId.{AnyId}
use Rattle.plain_model.specs.declared.event.PlainEvent.{PlainEvent}
use Rattle.plain_model.specs.Lookups.{find_event, id_of, same_id}
use Rattle.history_laws.proofs.Ids.{absent_cons, cons_absent, find_id, same_id_true}
use Rattle.event_arena.specs.Changes.{changed, in_order, put_after, without}
use Rattle.event_arena.specs.Spent.{AddsNone, AddsOnly}

pub adds_without : (x : AnyId) (es : List PlainEvent) → AddsNone es (without x es)
adds_without x [] id h = refl
adds_without x (e ∷ es) id h =
    let rest = absent_cons id e es h in
    elim (cases_Bool (same_id x (id_of e))) [
      | inl it ↦ rw it rest.1
      | inr no_it ↦ rw no_it (cons_absent id e (without x es) rest.0 (adds_without x es id rest.1))
    ]

pub adds_filter : (p : PlainEvent → Bool) (es : List PlainEvent) → AddsNone es (filter p es)
adds_filter p [] id h = refl
adds_filter p (e ∷ es) id h =
    let rest = absent_cons id e es h in
    elim (cases_Bool (p e)) [
      | inl it ↦ rw it (cons_absent id e (filter p es) rest.0 (adds_filter p es id rest.1))
      | inr no_it ↦ rw no_it (adds_filter p es id rest.1)
    ]

pub adds_changed : (x : AnyId) (f : PlainEvent → PlainEvent) → ((e : PlainEvent) → id_of (f e) ≡ id_of e) → (es : List PlainEvent) → AddsNone es (changed x f es)
adds_changed x f same [] id h = refl
adds_changed x f same (e ∷ es) id h =
    let rest = absent_cons id e es h in
    elim (cases_Bool (same_id x (id_of e))) [
      | inl it ↦ rw it (cons_absent id (f e) es (ap (same_id id) (same e) ∙ rest.0) rest.1)
      | inr no_it ↦ rw no_it (cons_absent id e (changed x f es) rest.0 (adds_changed x f same es id rest.1))
    ]

pub adds_append : (new : PlainEvent) (es : List PlainEvent) → AddsOnly (id_of new) es (es ++ new ∷ [])
adds_append new [] id other h = rw other refl
adds_append new (e ∷ es) id other h =
    let rest = absent_cons id e es h in
    cons_absent id e (es ++ new ∷ []) rest.0 (adds_append new es id other rest.1)

pub adds_put_after : (x : AnyId) (new : PlainEvent) (es : List PlainEvent) → AddsOnly (id_of new) es (put_after x new es)
adds_put_after x new [] id other h = refl
adds_put_after x new (e ∷ es) id other h =
    let rest = absent_cons id e es h in
    elim (cases_Bool (same_id x (id_of e))) [
      | inl it ↦ rw it (cons_absent id e (new ∷ es) rest.0 (cons_absent id new es other rest.1))
      | inr no_it ↦ rw no_it (cons_absent id e (put_after x new es) rest.0 (adds_put_after x new es id other rest.1))
    ]

-- what is put in order was found in the list
pub adds_in_order : (order : List AnyId) (es : List PlainEvent) → AddsNone es (in_order order es)
adds_in_order [] es id h = refl
adds_in_order (x ∷ order) es id h = by (find_event x es) refl (adds_in_order order es id h)
  where
    by : (o : Option PlainEvent) → find_event x es ≡ o → find_event id (in_order order es) ≡ None → find_event id (option_to_list o ++ in_order order es) ≡ None
    by None is rest = rest
    by (Some e) is rest = elim (cases_Bool (same_id id (id_of e))) [
      | inl it ↦ absurd (none-some e (sym h ∙ ap (λ i. find_event i es) (same_id_true id (id_of e) it ∙ sym (find_id x es e is)) ∙ is))
      | inr no_it ↦ cons_absent id e (in_order order es) no_it rest
    ]
