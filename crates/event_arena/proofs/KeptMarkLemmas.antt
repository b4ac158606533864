-- The marks of events stay as they were, and an index of marks still is one.
use Rattle.std.proofs.Common.{◌≡◌, ◌∙◌, ℕ, Bool, true, false, cond, ◌||◌, inl, inr, List, [], ◌∷◌, ◌++◌, Option, Some, None, refl, sym, ap, subst, map}
use Rattle.std.proofs.lemmas.Bool.{and_parts, cases_Bool, eqb-true, or_cases, true≢false}
use Rattle.std.proofs.lemmas.Option.{none-some, same_Some}
use Rattle.std.proofs.Math.Bool.{or-false}
use Rattle.std.specs.Cmp.Lexicographic.{pointwise}
use Rattle.std.specs.List.{list_any}
use Rattle.std.specs.Map.{lookup}
use Rattle.std.specs.Option.{option_eq}
use Rattle.std.specs.Prelude.{is_some, ◌==◌}
use Rattle.plain_model.specs.contracts.mark.MarkPartialEq.TheImpl.{eq-value}
use Rattle.plain_model.specs.declared.id.AnyId.{AnyId}
use Rattle.plain_model.specs.declared.event.PlainEvent.{PlainEvent}
use Rattle.plain_model.specs.Lookups.{event_marks, find_event, find_mark, id_of, is_listed, same_id}
use Rattle.history_laws.proofs.Ids.{same_id_true}
use Rattle.history_laws.specs.Once.{OccursOnce}
use Rattle.event_arena.specs.Changes.{without_all}
use Rattle.event_arena.specs.Indices.{IsMarkIndex, if_there}
use Rattle.event_arena.specs.Touched.{AreMarksKept, DifferAtMost, IsMarkedAsBefore, KeepMarks, indexed_of}
use Rattle.event_arena.proofs.ChangeLemmas.{is_listed_append}
use Rattle.event_arena.proofs.MarkLemmas.{is_marked_by, marked_there, there_marked}

-- marks that are compared one by one
pub same_mark_lists : (xs ys : List ℕ) → pointwise eq-value.it xs ys ≡ true → xs ≡ ys
same_mark_lists [] [] h = refl
same_mark_lists [] (y ∷ ys) h = absurd (true≢false (sym h))
same_mark_lists (x ∷ xs) [] h = absurd (true≢false (sym h))
same_mark_lists (x ∷ xs) (y ∷ ys) h =
    let parts = and_parts (eq-value.it x y) (pointwise eq-value.it xs ys) h in
    λ i. eqb-true x y parts.0 i ∷ same_mark_lists xs ys parts.1 i

-- marks that may be there
pub same_mark_options : (a b : Option ℕ) → option_eq eq-value.it a b ≡ true → a ≡ b
same_mark_options None None h = refl
same_mark_options None (Some y) h = absurd (true≢false (sym h))
same_mark_options (Some x) None h = absurd (true≢false (sym h))
same_mark_options (Some x) (Some y) h = ap Some (eqb-true x y h)

-- an event with an id that isn't listed stays
unlisted_stays : (ids : List AnyId) (id : AnyId) → is_listed id ids ≡ false → (es : List PlainEvent) → find_event id (without_all ids es) ≡ find_event id es
unlisted_stays ids id out [] = refl
unlisted_stays ids id out (e ∷ es) = elim (cases_Bool (is_listed (id_of e) ids)) [
  | inl goes ↦
      elim (cases_Bool (same_id id (id_of e))) [
        | inl it ↦ absurd (true≢false (sym goes ∙ ap (λ i. is_listed i ids) (sym (same_id_true id (id_of e) it)) ∙ out))
        | inr no_it ↦ rw (goes, no_it) (unlisted_stays ids id out es)
      ]
  | inr stays ↦
      elim (cases_Bool (same_id id (id_of e))) [
        | inl it ↦ rw (stays, it) refl
        | inr no_it ↦ rw (stays, no_it) (unlisted_stays ids id out es)
      ]
]

-- lists that are indexed alike have events with the same ids and marks
indexed_alike : (olds news : List PlainEvent) → map indexed_of olds ≡ map indexed_of news → AreMarksKept olds news
indexed_alike olds [] alike id new h = absurd (none-some new h)
indexed_alike [] (y ∷ news) alike id new h = absurd cc
indexed_alike (x ∷ olds) (y ∷ news) alike id new h =
    let first : indexed_of x ≡ indexed_of y = cc in
    let later : map indexed_of olds ≡ map indexed_of news = cc in
    let one : id_of x ≡ id_of y = ap (λ i. i.0) first in
    elim (cases_Bool (same_id id (id_of y))) [
      | inl it ↦
          let is : y ≡ new = same_Some y new (rw it at h) in
          (x, rw (one, it) refl, ap event_marks (sym is) ∙ ap (λ i. i.2) (sym first))
      | inr no_it ↦
          let rest = indexed_alike olds news later id new (rw no_it at h) in
          (rest.0, rw (one, no_it) rest.1, rest.2)
    ]

-- where the touched events keep their marks, all events do
pub marks_kept : (ids : List AnyId) (before after : List PlainEvent) → DifferAtMost (Some ids) before after → KeepMarks ids before after → AreMarksKept before after
marks_kept ids before after differ kept id new there = elim (cases_Bool (is_listed id ids)) [
  | inl touched ↦ kept id touched new there
  | inr untouched ↦
      let stayed = unlisted_stays ids id untouched in
      let was = indexed_alike (without_all ids before) (without_all ids after) differ id new (stayed after ∙ there) in
      (was.0, sym (stayed before) ∙ was.1, was.2)
]

only_there : (es : List PlainEvent) (o : Option AnyId) (id : AnyId) → if_there es o ≡ Some id → o ≡ Some id
only_there es None id h = absurd (none-some id h)
only_there es (Some own) id h = by (is_some (find_event own es)) h
  where
    by : (b : Bool) → cond b (Some own) None ≡ Some id → Some own ≡ Some id
    by true h = h
    by false h = absurd (none-some id h)

-- where all events that are there keep their marks, an index of the marks still is one
pub index_kept : (marks : List (ℕ × AnyId)) (before after : List PlainEvent) → OccursOnce before → OccursOnce after → IsMarkIndex marks before → AreMarksKept before after →
    IsMarkIndex marks after
index_kept marks before after once_before once_after index kept = record {
  named = λ mark. by mark (find_mark mark after) (lookup (λ m. mark == m) marks) refl refl;
  once = index.once;
  rising = index.rising;
}
  where
    -- a mark that an event has was looked up before
    was : (mark : ℕ) (id : AnyId) → find_mark mark after ≡ Some id → find_mark mark before ≡ Some id
    was mark id h =
        let now = marked_there mark id after once_after.ids h in
        let old = kept id now.0 now.1 in
        there_marked mark id old.0 before once_before.marks old.1 (ap (λ own. list_any (λ n. mark == n) own) (sym old.2) ∙ now.2)

    -- an id that was found then is that of an event that still has the mark, if it is there
    still : (mark : ℕ) (id : AnyId) (new : PlainEvent) → find_mark mark before ≡ Some id → find_event id after ≡ Some new → find_mark mark after ≡ Some id
    still mark id new h there =
        let old = kept id new there in
        let then = marked_there mark id before once_before.ids h in
        let same : old.0 ≡ then.0 = same_Some old.0 then.0 (sym old.1 ∙ then.1) in
        there_marked mark id new after once_after.marks there (ap (λ own. list_any (λ n. mark == n) own) old.2 ∙ ap (is_marked_by mark) same ∙ then.2)

    by : (mark : ℕ) (o p : Option AnyId) → find_mark mark after ≡ o → lookup (λ m. mark == m) marks ≡ p → o ≡ if_there after p
    by mark (Some id) p is looked =
        let found = only_there before p id (sym (index.named mark ∙ ap (if_there before) looked) ∙ was mark id is) in
        rw (found, (marked_there mark id after once_after.ids is).1) refl
    by mark None None is looked = refl
    by mark None (Some id) is looked = gone (find_event id after) refl
      where
        gone : (there : Option PlainEvent) → find_event id after ≡ there → None ≡ cond (is_some there) (Some id) None
        gone None h = refl
        gone (Some new) h =
            let then : if_there before (Some id) ≡ Some id = rw ((kept id new h).1) refl in
            absurd (none-some id (sym is ∙ still mark id new (index.named mark ∙ ap (if_there before) looked ∙ then) h))

-- ---- one touched event after another

module _ (ids : List AnyId) (id : AnyId) (before after : List PlainEvent) (kept : KeepMarks ids before after) where
  -- one more, as far as it is there
  keep_more : IsMarkedAsBefore id before after → KeepMarks (ids ++ id ∷ []) before after
  keep_more own other listed new there = elim (or_cases (is_listed other ids) (same_id other id || false) (sym (is_listed_append ids (id ∷ []) other) ∙ listed)) [
    | inl earlier ↦ kept other earlier new there
    | inr here ↦
        let is : other ≡ id = same_id_true other id (sym (or-false (same_id other id)) ∙ here) in
        subst (λ i. IsMarkedAsBefore i before after) (sym is) own new there
  ]

  pub keep_absent : find_event id after ≡ None → KeepMarks (ids ++ id ∷ []) before after
  keep_absent absent = keep_more (λ new there. absurd (none-some new (sym absent ∙ there)))

  pub keep_one : (old new : PlainEvent) → find_event id before ≡ Some old → find_event id after ≡ Some new → event_marks new ≡ event_marks old → KeepMarks (ids ++ id ∷ []) before after
  keep_one old new was is same = keep_more (λ other there. (old, was, ap event_marks (same_Some other new (sym there ∙ is)) ∙ same))
