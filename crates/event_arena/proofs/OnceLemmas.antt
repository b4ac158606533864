-- Ids and marks that occur once.
use Rattle.std.proofs.Common.{◌≡◌, ◌∙◌, ℕ, zero, ◌+◌, ◌<◌, ◌≤◌, false, inl, inr, List, [], ◌∷◌, ◌++◌, Some, None, refl, ap, sym, subst, length, take, drop, get_or, append_assoc, arith, length-append, suc}
use Rattle.std.proofs.lemmas.Bool.{cases_Bool}
use Rattle.std.proofs.lemmas.List.{map-append}
use Rattle.std.proofs.lemmas.Option.{none-some, same_Some}
use Rattle.std.specs.Prelude.{flat_map, slice_get}
use Rattle.plain_model.specs.declared.id.AnyId.{AnyId}
use Rattle.plain_model.specs.declared.event.PlainEvent.{PlainEvent}
use Rattle.plain_model.specs.Lookups.{find_event, id_of, marks_of, own_marks, same_id}
use Rattle.history_laws.proofs.Ids.{same_id_refl, same_id_true, same_id_comm, absent_cons}
use Rattle.history_laws.specs.Once.{AreDistinct, named}
use Rattle.event_arena.proofs.ListLemmas.{flat_split, flat_take_item, take_more}

-- ---- ids

not_found : (xs ys : List PlainEvent) (e : PlainEvent) (id : AnyId) → find_event id (xs ++ e ∷ ys) ≡ None → same_id (id_of e) id ≡ false
not_found [] ys e id h = same_id_comm (id_of e) id ∙ (absent_cons id e ys h).0
not_found (x ∷ xs) ys e id h = not_found xs ys e id (absent_cons id x (xs ++ e ∷ ys) h).1

-- what is before an event misses its id
pub distinct_absent : (xs ys : List PlainEvent) (e : PlainEvent) → AreDistinct (xs ++ e ∷ ys) → find_event (id_of e) xs ≡ None
distinct_absent [] ys e h = refl
distinct_absent (x ∷ xs) ys e h = rw (not_found xs ys e (id_of x) h.0) (distinct_absent xs ys e h.1)

-- an event is found by its id
pub found_at : (es : List PlainEvent) (k : ℕ) (e : PlainEvent) → AreDistinct es → slice_get es k ≡ Some e → find_event (id_of e) es ≡ Some e
found_at [] k e once h = absurd (none-some e h)
found_at (x ∷ es) zero e once h = subst (λ y. find_event (id_of y) (x ∷ es) ≡ Some y) (same_Some x e h) (rw (same_id_refl (id_of x)) refl)
found_at (x ∷ es) (suc k) e once h =
    let later = found_at es k e once.1 h in
    elim (cases_Bool (same_id (id_of e) (id_of x))) [
      | inl it ↦ absurd (none-some e (sym (ap (λ i. find_event i es) (same_id_true (id_of e) (id_of x) it) ∙ once.0) ∙ later))
      | inr no_it ↦ rw no_it later
    ]

-- ---- marks

pub marks_room : (es : List PlainEvent) (k : ℕ) (e : PlainEvent) → slice_get es k ≡ Some e →
    length (marks_of (take k es)) + length (own_marks e) ≤ length (marks_of es)
marks_room es k e h =
    let a = ap length (flat_take_item own_marks es k e h) ∙ length-append (marks_of (take k es)) (own_marks e) in
    let b = sym (ap length (flat_split own_marks es (suc k))) ∙ length-append (flat_map own_marks (take (suc k) es)) (flat_map own_marks (drop (suc k) es)) in
    omega arith

-- ---- the marks of one event

module _ (xs : List (ℕ × AnyId)) (own : List ℕ) (id : AnyId) (k m : ℕ) (within : k < length own) (is : m ≡ get_or own k m) where
  -- one more is noted
  pub named_more : (xs ++ named id (take k own)) ++ (m, id) ∷ [] ≡ xs ++ named id (take (suc k) own)
  named_more =
      append_assoc xs (named id (take k own)) ((m, id) ∷ [])
      ∙ ap (λ ys. xs ++ ys) (sym (ap (named id) (take_more own k m within is) ∙ map-append (λ n. (n, id)) (take k own) (m ∷ [])))
