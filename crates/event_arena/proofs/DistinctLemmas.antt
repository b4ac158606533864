-- Changes that keep the ids of a list distinct.
use Rattle.std.proofs.Common.{◌≡◌, ◌∙◌, ℕ, suc, Bool, true, false, ◌||◌, inl, inr, List, [], ◌∷◌, ◌++◌, Option, Some, None, refl, ap, sym, subst, filter, take, drop}
use Rattle.std.proofs.lemmas.Bool.{cases_Bool, or_left}
use Rattle.std.proofs.lemmas.List.{take-append-drop}
use Rattle.std.proofs.lemmas.Map.Keys.{IsDistinct-IsPermutation}
use Rattle.std.specs.List.{AllByRecursion, IsDistinct}
use Rattle.std.specs.Prelude.{map, option_to_list, slice_get}
use Rattle.plain_model.specs.declared.id.AnyId.{AnyId}
use Rattle.plain_model.specs.declared.event.PlainEvent.{PlainEvent}
use Rattle.plain_model.specs.Lookups.{find_event, id_of, is_listed, same_id}
use Rattle.history_laws.proofs.Ids.{absent_cons, cons_absent, find_id, same_id_comm, same_id_true}
use Rattle.event_arena.specs.Changes.{IsOrderOf, changed, in_order, put_after, without, without_all}
use Rattle.history_laws.specs.Once.{AreDistinct}
use Rattle.event_arena.proofs.ChangeLemmas.{AreListedOnce, once_distinct, order_misses}
use Rattle.event_arena.proofs.ListLemmas.{drop_item}
use Rattle.event_arena.proofs.OnceLemmas.{distinct_absent}
use Rattle.event_arena.proofs.SpentLemmas.{adds_changed, adds_filter, adds_put_after}

-- the events before a place miss the id of the one there
pub distinct_before : (es : List PlainEvent) (k : ℕ) (e : PlainEvent) → AreDistinct es → slice_get es k ≡ Some e → find_event (id_of e) (take k es) ≡ None
distinct_before es k e once at =
    distinct_absent (take k es) (drop (suc k) es) e
    (subst AreDistinct (sym (take-append-drop k es) ∙ ap (λ xs. take k es ++ xs) (drop_item es k e at)) once)

pub distinct_more : (es : List PlainEvent) (new : PlainEvent) → find_event (id_of new) es ≡ None → AreDistinct es → AreDistinct (es ++ new ∷ [])
distinct_more [] new absent once = (refl, tt)
distinct_more (e ∷ es) new absent once =
    let rest = absent_cons (id_of new) e es absent in
    (adds_one es e (same_id_comm (id_of e) (id_of new) ∙ rest.0) once.0, distinct_more es new rest.1 once.1)
  where
    adds_one : (es : List PlainEvent) (e : PlainEvent) → same_id (id_of e) (id_of new) ≡ false → find_event (id_of e) es ≡ None → find_event (id_of e) (es ++ new ∷ []) ≡ None
    adds_one [] e other h = rw other refl
    adds_one (x ∷ es) e other h = let rest = absent_cons (id_of e) x es h in cons_absent (id_of e) x (es ++ new ∷ []) rest.0 (adds_one es e other rest.1)

pub distinct_put_after : (x : AnyId) (new : PlainEvent) (es : List PlainEvent) → find_event (id_of new) es ≡ None → AreDistinct es → AreDistinct (put_after x new es)
distinct_put_after x new [] absent once = tt
distinct_put_after x new (e ∷ es) absent once =
    let rest = absent_cons (id_of new) e es absent in
    let other = same_id_comm (id_of e) (id_of new) ∙ rest.0 in
    elim (cases_Bool (same_id x (id_of e))) [
      | inl it ↦ rw it (cons_absent (id_of e) new es other once.0, (rest.1, once.1))
      | inr no_it ↦ rw no_it (adds_put_after x new es (id_of e) other once.0, distinct_put_after x new es rest.1 once.1)
    ]

pub distinct_filter : (p : PlainEvent → Bool) (es : List PlainEvent) → AreDistinct es → AreDistinct (filter p es)
distinct_filter p [] once = tt
distinct_filter p (e ∷ es) once = elim (cases_Bool (p e)) [
  | inl it ↦ rw it (adds_filter p es (id_of e) once.0, distinct_filter p es once.1)
  | inr no_it ↦ rw no_it (distinct_filter p es once.1)
]

pub distinct_changed : (x : AnyId) (f : PlainEvent → PlainEvent) → ((e : PlainEvent) → id_of (f e) ≡ id_of e) → (es : List PlainEvent) → AreDistinct es → AreDistinct (changed x f es)
distinct_changed x f same [] once = tt
distinct_changed x f same (e ∷ es) once = elim (cases_Bool (same_id x (id_of e))) [
  | inl it ↦ rw it (ap (λ i. find_event i es) (same e) ∙ once.0, once.1)
  | inr no_it ↦ rw no_it (adds_changed x f same es (id_of e) once.0, distinct_changed x f same es once.1)
]

-- ---- orders

ids_distinct : (es : List PlainEvent) → AreDistinct es → IsDistinct same_id (map id_of es)
unfolding IsDistinct
ids_distinct [] once = tt
ids_distinct (e ∷ es) once = (apart (id_of e) es once.0, ids_distinct es once.1)
  where
    apart : (own : AnyId) (es : List PlainEvent) → find_event own es ≡ None → AllByRecursion (λ y. same_id own y ≡ false) (map id_of es)
    apart own [] h = tt
    apart own (x ∷ es) h = let rest = absent_cons own x es h in (rest.0, apart own es rest.1)

-- an order has no id twice
order_once : (es : List PlainEvent) (order : List AnyId) → AreDistinct es → IsOrderOf order es → AreListedOnce order
order_once es order once p = once_distinct order (IsDistinct-IsPermutation same_id same_id_comm (map id_of es) order p (ids_distinct es once))

listed_distinct : (order : List AnyId) (es : List PlainEvent) → AreListedOnce order → AreDistinct (in_order order es)
listed_distinct [] es listed = tt
listed_distinct (x ∷ order) es listed = by (find_event x es) refl (listed_distinct order es listed.1)
  where
    by : (o : Option PlainEvent) → find_event x es ≡ o → AreDistinct (in_order order es) → AreDistinct (option_to_list o ++ in_order order es)
    by None is rest = rest
    by (Some e) is rest = (order_misses order es (id_of e) (ap (λ i. is_listed i order) (sym (find_id x es e is)) ∙ listed.0), rest)

pub distinct_in_order : (order : List AnyId) (es : List PlainEvent) → AreDistinct es → IsOrderOf order es → AreDistinct (in_order order es)
distinct_in_order order es once p = listed_distinct order es (order_once es order once p)

-- one id that is taken away is the one of all that are
pub without_one : (x : AnyId) (es : List PlainEvent) → AreDistinct es → without_all (x ∷ []) es ≡ without x es
without_one x [] once = refl
without_one x (e ∷ es) once = elim (cases_Bool (same_id x (id_of e))) [
  | inl it ↦
      let gone : is_listed (id_of e) (x ∷ []) ≡ true = or_left (same_id (id_of e) x) false (same_id_comm (id_of e) x ∙ it) in
      rw (it, gone) (none_gone es (ap (λ i. find_event i es) (same_id_true x (id_of e) it) ∙ once.0))
  | inr no_it ↦
      let stays : is_listed (id_of e) (x ∷ []) ≡ false = ap (λ b. b || false) (same_id_comm (id_of e) x ∙ no_it) in
      rw (no_it, stays) (ap (λ ys. e ∷ ys) (without_one x es once.1))
]
  where
    none_gone : (es : List PlainEvent) → find_event x es ≡ None → without_all (x ∷ []) es ≡ es
    none_gone [] absent = refl
    none_gone (y ∷ es) absent =
        let rest = absent_cons x y es absent in
        let stays : is_listed (id_of y) (x ∷ []) ≡ false = ap (λ b. b || false) (same_id_comm (id_of y) x ∙ rest.0) in
        rw stays (ap (λ ys. y ∷ ys) (none_gone es rest.1))
