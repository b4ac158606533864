-- The places of events in a list, and the places that are noted for them.
use Rattle.std.proofs.Common.{◌≡◌, ◌∙◌, ℕ, zero, suc, true, cond, ◌⊎◌, inl, inr, List, [], ◌∷◌, ◌++◌, Option, Some, None, refl, ap, sym, length, take, arith}
use Rattle.std.proofs.Math.ListN.{set}
use Rattle.std.proofs.lemmas.Bool.{cases_Bool}
use Rattle.std.proofs.lemmas.Option.{none-some, same_Some}
use Rattle.std.specs.List.{insert}
use Rattle.std.specs.Prelude.{option_map, slice_get}
use Rattle.plain_model.specs.declared.id.AnyId.{AnyId}
use Rattle.plain_model.specs.declared.event.PlainEvent.{PlainEvent}
use Rattle.plain_model.specs.Lookups.{find_event, id_of, place_of, same_id}
use Rattle.history_laws.proofs.Ids.{place_at, place_some, placeless, same_id_refl, same_id_true, some_suc}
use Rattle.event_arena.specs.Changes.{changed, put_after}
use Rattle.event_arena.specs.Rows.{IsNoted, IsPlaced, noted}
use Rattle.event_arena.specs.declared.places.Places.{Places}

-- ---- places in a list

-- one event more
place_more : (id : AnyId) (es : List PlainEvent) (e : PlainEvent) (k : ℕ) → place_of id (es ++ e ∷ []) ≡ Some k →
    (place_of id es ≡ Some k) ⊎ ((same_id id (id_of e) ≡ true) × (length es ≡ k))
place_more id [] e k h = elim (cases_Bool (same_id id (id_of e))) [
  | inl it ↦ inr (it, same_Some 0 k (rw it at h))
  | inr no_it ↦ absurd (none-some k (rw no_it at h))
]
place_more id (x ∷ es) e k h = elim (cases_Bool (same_id id (id_of x))) [
  | inl it ↦ inl (rw it (rw it at h))
  | inr no_it ↦
      let later = some_suc (place_of id (es ++ e ∷ [])) k (rw no_it at h) in
      elim (place_more id es e later.0 later.1) [
        | inl there ↦ inl (rw no_it (ap (option_map suc) there ∙ ap Some later.2))
        | inr last ↦ inr (last.0, ap suc last.1 ∙ later.2)
      ]
]

place_changed : (x : AnyId) (f : PlainEvent → PlainEvent) → ((e : PlainEvent) → id_of (f e) ≡ id_of e) → (es : List PlainEvent) (id : AnyId) →
    place_of id (changed x f es) ≡ place_of id es
place_changed x f same [] id = refl
place_changed x f same (e ∷ es) id = elim (cases_Bool (same_id x (id_of e))) [
  | inl it ↦ rw (it, same e) refl
  | inr no_it ↦ rw no_it (ap (λ o. cond (same_id id (id_of e)) (Some 0) (option_map suc o)) (place_changed x f same es id))
]

-- ---- changes at a place

pub put_set : (id : AnyId) (f : PlainEvent → PlainEvent) (es : List PlainEvent) (k : ℕ) (e : PlainEvent) → place_of id es ≡ Some k → slice_get es k ≡ Some e →
    set es k (f e) ≡ changed id f es
put_set id f [] k e p g = absurd (none-some k p)
put_set id f (x ∷ es) zero e p g = elim (cases_Bool (same_id id (id_of x))) [
  | inl it ↦ rw it (ap (λ y. f y ∷ es) (sym (same_Some x e g)))
  | inr no_it ↦ let later = some_suc (place_of id es) 0 (rw no_it at p) in let bad : suc later.0 ≡ 0 = later.2 in absurd (omega arith)
]
put_set id f (x ∷ es) (suc k) e p g = elim (cases_Bool (same_id id (id_of x))) [
  | inl it ↦ let bad : 0 ≡ suc k = same_Some 0 (suc k) (rw it at p) in absurd (omega arith)
  | inr no_it ↦
      let later = some_suc (place_of id es) (suc k) (rw no_it at p) in
      rw no_it (ap (λ ys. x ∷ ys) (put_set id f es k e (later.1 ∙ ap Some (down later.0 k later.2)) g))
]
  where
    down : (j k : ℕ) → suc j ≡ suc k → j ≡ k
    down j k h = omega arith

pub put_insert : (id : AnyId) (new : PlainEvent) (es : List PlainEvent) (k : ℕ) → place_of id es ≡ Some k → insert es (suc k) new ≡ put_after id new es
put_insert id new [] k p = absurd (none-some k p)
put_insert id new (x ∷ es) zero p = elim (cases_Bool (same_id id (id_of x))) [
  | inl it ↦ rw it refl
  | inr no_it ↦ let later = some_suc (place_of id es) 0 (rw no_it at p) in let bad : suc later.0 ≡ 0 = later.2 in absurd (omega arith)
]
put_insert id new (x ∷ es) (suc k) p = elim (cases_Bool (same_id id (id_of x))) [
  | inl it ↦ let bad : 0 ≡ suc k = same_Some 0 (suc k) (rw it at p) in absurd (omega arith)
  | inr no_it ↦
      let later = some_suc (place_of id es) (suc k) (rw no_it at p) in
      rw no_it (ap (λ ys. x ∷ ys) (put_insert id new es k (later.1 ∙ ap Some (down later.0 k later.2))))
]
  where
    down : (j k : ℕ) → suc j ≡ suc k → j ≡ k
    down j k h = omega arith

-- ---- noted places

-- the place of an id that isn't there is noted
pub placed_beside : (old new : Places) (own : AnyId) (place : ℕ) (es : List PlainEvent) → find_event own es ≡ None → IsNoted own place old new → IsPlaced old es → IsPlaced new es
placed_beside old new own place es absent note placed id k h = elim (cases_Bool (same_id id own)) [
  | inl it ↦
      let here = place_at id es k h in
      absurd (none-some here.0 (sym (ap (λ i. find_event i es) (same_id_true id own it) ∙ absent) ∙ here.2))
  | inr no_it ↦ note id ∙ rw no_it (placed id k h)
]

-- and its event comes there
pub placed_more : (old new : Places) (e : PlainEvent) (place : ℕ) (es : List PlainEvent) → place ≡ length es → find_event (id_of e) es ≡ None →
    IsNoted (id_of e) place old new → IsPlaced old es → IsPlaced new (es ++ e ∷ [])
placed_more old new e place es last absent note placed id k h = elim (place_more id es e k h) [
  | inl there ↦ placed_beside old new (id_of e) place es absent note placed id k there
  | inr it ↦ note id ∙ rw it.0 (last ∙ it.1)
]

-- the first events stay in their places
pub placed_front : (places : Places) (es : List PlainEvent) (n : ℕ) → IsPlaced places es → IsPlaced places (take n es)
placed_front places es n placed id k h = placed id k (front es n k h)
  where
    front : (es : List PlainEvent) (n k : ℕ) → place_of id (take n es) ≡ Some k → place_of id es ≡ Some k
    front [] zero k h = h
    front [] (suc n) k h = h
    front (e ∷ es) zero k h = absurd (none-some k h)
    front (e ∷ es) (suc n) k h = elim (cases_Bool (same_id id (id_of e))) [
      | inl it ↦ rw it (rw it at h)
      | inr no_it ↦
          let later = some_suc (place_of id (take n es)) k (rw no_it at h) in
          rw no_it (ap (option_map suc) (front es n later.0 later.1) ∙ ap Some later.2)
    ]

pub placed_changed : (places : Places) (x : AnyId) (f : PlainEvent → PlainEvent) → ((e : PlainEvent) → id_of (f e) ≡ id_of e) → (es : List PlainEvent) →
    IsPlaced places es → IsPlaced places (changed x f es)
placed_changed places x f same es placed id k h = placed id k (sym (place_changed x f same es id) ∙ h)

-- the event at the noted place has the id
pub placed_here : (places : Places) (es : List PlainEvent) (e : PlainEvent) (id : AnyId) (k : ℕ) → IsPlaced places es → k ≡ noted places id →
    slice_get es k ≡ Some e → same_id (id_of e) id ≡ true → Some k ≡ place_of id es
placed_here places es e id k placed note at same =
    let own = same_id_true (id_of e) id same in
    let there = place_some es k e at in
    let place : place_of id es ≡ Some there.0 = ap (λ i. place_of i es) (sym own) ∙ there.1 in
    ap Some (note ∙ placed id there.0 place) ∙ sym place

-- it has another, or no event is there
pub placed_apart : (places : Places) (es : List PlainEvent) (id : AnyId) (k : ℕ) → IsPlaced places es → k ≡ noted places id →
    ((e : PlainEvent) → slice_get es k ≡ Some e → same_id (id_of e) id ≡ true → ⊥) → None ≡ place_of id es
placed_apart places es id k placed note apart = by (place_of id es) refl
  where
    by : (o : Option ℕ) → place_of id es ≡ o → None ≡ o
    by None h = refl
    by (Some j) h =
        let here = place_at id es j h in
        let is : k ≡ j = note ∙ placed id j h in
        absurd (apart here.0 (ap (slice_get es) is ∙ here.1) (ap (λ i. same_id i id) (sym here.3) ∙ same_id_refl id))

-- the event at a place is the one that is found
pub place_found : (id : AnyId) (es : List PlainEvent) (k : ℕ) (e : PlainEvent) → place_of id es ≡ Some k → slice_get es k ≡ Some e → Some e ≡ find_event id es
place_found id es k e p g = let here = place_at id es k p in sym g ∙ here.1 ∙ sym here.2

pub place_none : (id : AnyId) (es : List PlainEvent) → place_of id es ≡ None → None ≡ find_event id es
place_none id es h = sym (placeless es id h)
