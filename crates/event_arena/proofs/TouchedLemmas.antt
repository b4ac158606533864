-- What a change of a list leaves as it was for an index, away from the ids that it touches.
use Rattle.std.proofs.Common.{◌≡◌, ◌∙◌, true, false, not, ◌||◌, inl, inr, List, [], ◌∷◌, ◌++◌, Option, Some, None, refl, ap, sym, filter}
use Rattle.std.proofs.Math.Bool.{or-true}
use Rattle.std.proofs.lemmas.Bool.{cases_Bool, or_right}
use Rattle.std.specs.Prelude.{map}
use Rattle.plain_model.specs.declared.id.AnyId.{AnyId}
use Rattle.plain_model.specs.declared.event.PlainEvent.{PlainEvent}
use Rattle.plain_model.specs.Lookups.{id_of, is_listed, same_id}
use Rattle.history_laws.proofs.Ids.{same_id_refl, same_id_true}
use Rattle.event_arena.specs.Changes.{changed, put_after, without, without_all}
use Rattle.event_arena.specs.Touched.{DifferAtMost, HasMore, indexed_of}
use Rattle.event_arena.proofs.ChangeLemmas.{is_listed_append}

-- ---- more ids

-- some ids and then more
without_append : (ids more : List AnyId) (es : List PlainEvent) → without_all (ids ++ more) es ≡ without_all more (without_all ids es)
without_append ids more [] = refl
without_append ids more (e ∷ es) = elim (cases_Bool (is_listed (id_of e) ids)) [
  | inl it ↦ rw (is_listed_append ids more (id_of e), it) (without_append ids more es)
  | inr no_it ↦ elim (cases_Bool (is_listed (id_of e) more)) [
    | inl gone ↦ rw (is_listed_append ids more (id_of e), no_it, gone) (without_append ids more es)
    | inr stays ↦ rw (is_listed_append ids more (id_of e), no_it, stays) (ap (λ ys. e ∷ ys) (without_append ids more es))
  ]
]

-- what an index is made from tells which events go
indexed_without : (ids : List AnyId) (es : List PlainEvent) →
    map indexed_of (without_all ids es) ≡ filter (λ x. not (is_listed x.0 ids)) (map indexed_of es)
indexed_without ids [] = refl
indexed_without ids (e ∷ es) = elim (cases_Bool (is_listed (id_of e) ids)) [
  | inl it ↦ rw it (indexed_without ids es)
  | inr no_it ↦ rw no_it (ap (λ ys. indexed_of e ∷ ys) (indexed_without ids es))
]

indexed_same : (ids : List AnyId) (old new : List PlainEvent) → map indexed_of old ≡ map indexed_of new → map indexed_of (without_all ids old) ≡ map indexed_of (without_all ids new)
indexed_same ids old new h = indexed_without ids old ∙ ap (filter (λ x. not (is_listed x.0 ids))) h ∙ sym (indexed_without ids new)

-- lists that differ at some ids differ at no others than these and more
pub differ_more : (ids more : List AnyId) (before after : List PlainEvent) → DifferAtMost (Some ids) before after → DifferAtMost (Some (ids ++ more)) before after
differ_more ids more before after h =
    ap (map indexed_of) (without_append ids more before)
    ∙ indexed_same more (without_all ids before) (without_all ids after) h
    ∙ sym (ap (map indexed_of) (without_append ids more after))

-- ---- changes of events that are touched

module _ (ids : List AnyId) where
  pub gone_changed : (id : AnyId) → is_listed id ids ≡ true → (f : PlainEvent → PlainEvent) → ((e : PlainEvent) → id_of (f e) ≡ id_of e) → (es : List PlainEvent) →
      without_all ids (changed id f es) ≡ without_all ids es
  gone_changed id there f same [] = refl
  gone_changed id there f same (e ∷ es) = elim (cases_Bool (same_id id (id_of e))) [
    | inl it ↦
        let gone : is_listed (id_of e) ids ≡ true = ap (λ i. is_listed i ids) (sym (same_id_true id (id_of e) it)) ∙ there in
        let still : is_listed (id_of (f e)) ids ≡ true = ap (λ i. is_listed i ids) (same e) ∙ gone in
        rw (it, gone, still) refl
    | inr no_it ↦ elim (cases_Bool (is_listed (id_of e) ids)) [
      | inl gone ↦ rw (no_it, gone) (gone_changed id there f same es)
      | inr stays ↦ rw (no_it, stays) (ap (λ ys. e ∷ ys) (gone_changed id there f same es))
    ]
  ]

  pub gone_without : (id : AnyId) → is_listed id ids ≡ true → (es : List PlainEvent) → without_all ids (without id es) ≡ without_all ids es
  gone_without id there [] = refl
  gone_without id there (e ∷ es) = elim (cases_Bool (same_id id (id_of e))) [
    | inl it ↦
        let gone : is_listed (id_of e) ids ≡ true = ap (λ i. is_listed i ids) (sym (same_id_true id (id_of e) it)) ∙ there in
        rw (it, gone) refl
    | inr no_it ↦ elim (cases_Bool (is_listed (id_of e) ids)) [
      | inl gone ↦ rw (no_it, gone) (gone_without id there es)
      | inr stays ↦ rw (no_it, stays) (ap (λ ys. e ∷ ys) (gone_without id there es))
    ]
  ]

  pub gone_append : (new : PlainEvent) → is_listed (id_of new) ids ≡ true → (es : List PlainEvent) → without_all ids (es ++ new ∷ []) ≡ without_all ids es
  gone_append new there [] = rw there refl
  gone_append new there (e ∷ es) = elim (cases_Bool (is_listed (id_of e) ids)) [
    | inl gone ↦ rw gone (gone_append new there es)
    | inr stays ↦ rw stays (ap (λ ys. e ∷ ys) (gone_append new there es))
  ]

  pub gone_put_after : (x : AnyId) (new : PlainEvent) → is_listed (id_of new) ids ≡ true → (es : List PlainEvent) → without_all ids (put_after x new es) ≡ without_all ids es
  gone_put_after x new there [] = refl
  gone_put_after x new there (e ∷ es) = elim (cases_Bool (same_id x (id_of e))) [
    | inl it ↦ rw (it, there) refl
    | inr no_it ↦ elim (cases_Bool (is_listed (id_of e) ids)) [
      | inl gone ↦ rw (no_it, gone) (gone_put_after x new there es)
      | inr stays ↦ rw (no_it, stays) (ap (λ ys. e ∷ ys) (gone_put_after x new there es))
    ]
  ]

  pub gone_all : (more : List AnyId) → ((id : AnyId) → is_listed id more ≡ true → is_listed id ids ≡ true) → (es : List PlainEvent) →
      without_all ids (without_all more es) ≡ without_all ids es
  gone_all more there [] = refl
  gone_all more there (e ∷ es) = elim (cases_Bool (is_listed (id_of e) more)) [
    | inl it ↦ rw (it, there (id_of e) it) (gone_all more there es)
    | inr no_it ↦ elim (cases_Bool (is_listed (id_of e) ids)) [
      | inl gone ↦ rw (no_it, gone) (gone_all more there es)
      | inr stays ↦ rw (no_it, stays) (ap (λ ys. e ∷ ys) (gone_all more there es))
    ]
  ]

-- ---- changes that no index sees

pub indexed_changed : (id : AnyId) (f : PlainEvent → PlainEvent) → ((e : PlainEvent) → indexed_of (f e) ≡ indexed_of e) → (es : List PlainEvent) →
    map indexed_of (changed id f es) ≡ map indexed_of es
indexed_changed id f same [] = refl
indexed_changed id f same (e ∷ es) = elim (cases_Bool (same_id id (id_of e))) [
  | inl it ↦ rw it (ap (λ y. y ∷ map indexed_of es) (same e))
  | inr no_it ↦ rw no_it (ap (λ ys. indexed_of e ∷ ys) (indexed_changed id f same es))
]

pub differ_unseen : (touched : Option (List AnyId)) (before after now : List PlainEvent) → map indexed_of after ≡ map indexed_of now →
    DifferAtMost touched before after → DifferAtMost touched before now
differ_unseen None before after now same h = tt
differ_unseen (Some ids) before after now same h = h ∙ indexed_same ids after now same

-- ---- what a plan has touched after one change more

-- some ids more are touched, and without them the change changes nothing
pub differ_step : (more : List AnyId) (old new : Option (List AnyId)) (before after now : List PlainEvent) → HasMore more old new →
    ((ids : List AnyId) → without_all (ids ++ more) now ≡ without_all (ids ++ more) after) → DifferAtMost old before after → DifferAtMost new before now
differ_step more old None before after now has same h = tt
differ_step more None (Some new) before after now has same h = absurd has
differ_step more (Some old) (Some new) before after now has same h =
    rw has (differ_more old more before after h ∙ sym (ap (map indexed_of) (same old)))

-- the added ids are listed
pub listed_last : (ids : List AnyId) (id : AnyId) → is_listed id (ids ++ id ∷ []) ≡ true
listed_last ids id = is_listed_append ids (id ∷ []) id ∙ ap (λ b. is_listed id ids || (b || false)) (same_id_refl id) ∙ or-true (is_listed id ids)

pub listed_more : (ids more : List AnyId) (id : AnyId) → is_listed id more ≡ true → is_listed id (ids ++ more) ≡ true
listed_more ids more id h = is_listed_append ids more id ∙ or_right (is_listed id ids) (is_listed id more) h

module _ (id : AnyId) (old new : Option (List AnyId)) (before after now : List PlainEvent) (has : HasMore (id ∷ []) old new) (differ : DifferAtMost old before after) where
  pub touched_append : (event : PlainEvent) → id ≡ id_of event → now ≡ after ++ event ∷ [] → DifferAtMost new before now
  touched_append event own is =
      differ_step (id ∷ []) old new before after now has
      (λ ids. ap (without_all (ids ++ id ∷ [])) is ∙ gone_append (ids ++ id ∷ []) event (ap (λ i. is_listed i (ids ++ id ∷ [])) (sym own) ∙ listed_last ids id) after) differ

  pub touched_put_after : (x : AnyId) (event : PlainEvent) → id ≡ id_of event → now ≡ put_after x event after → DifferAtMost new before now
  touched_put_after x event own is =
      differ_step (id ∷ []) old new before after now has
      (λ ids. ap (without_all (ids ++ id ∷ [])) is ∙ gone_put_after (ids ++ id ∷ []) x event (ap (λ i. is_listed i (ids ++ id ∷ [])) (sym own) ∙ listed_last ids id) after) differ

  pub touched_without : now ≡ without id after → DifferAtMost new before now
  touched_without is =
      differ_step (id ∷ []) old new before after now has
      (λ ids. ap (without_all (ids ++ id ∷ [])) is ∙ gone_without (ids ++ id ∷ []) id (listed_last ids id) after) differ

  pub touched_changed : (f : PlainEvent → PlainEvent) → ((e : PlainEvent) → id_of (f e) ≡ id_of e) → now ≡ changed id f after → DifferAtMost new before now
  touched_changed f same is =
      differ_step (id ∷ []) old new before after now has
      (λ ids. ap (without_all (ids ++ id ∷ [])) is ∙ gone_changed (ids ++ id ∷ []) id (listed_last ids id) f same after) differ

pub touched_without_all : (more : List AnyId) (old new : Option (List AnyId)) (before after now : List PlainEvent) → HasMore more old new → DifferAtMost old before after →
    now ≡ without_all more after → DifferAtMost new before now
touched_without_all more old new before after now has differ is =
    differ_step more old new before after now has
    (λ ids. ap (without_all (ids ++ more)) is ∙ gone_all (ids ++ more) more (listed_more ids more) after) differ
