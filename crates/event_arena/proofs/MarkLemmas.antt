-- Marks and the events that have them, and what halving finds among marks that are in order.
use Rattle.std.proofs.Common.{◌≡◌, ◌∙◌, Less, Greater, ℕ, zero, suc, ◌<◌, ◌≤◌, Bool, true, false, cond, inl, inr, List, [], ◌∷◌, ◌++◌, Option, Some, None, Result, Ok, Err, refl, sym, ap, eqb, length, get_or, is_some, arith}
use Rattle.std.proofs.lemmas.Bool.{cases_Bool, eq-eqb, eqb-true, true≢false}
use Rattle.std.proofs.lemmas.Bool.Decides.{nat_tests}
use Rattle.std.proofs.lemmas.Cmp.{ranked}
use Rattle.std.proofs.lemmas.List.Sorted.{All-permutation, IsPermutation-sym}
use Rattle.std.proofs.lemmas.Map.Keys.{IsDistinct-IsPermutation}
use Rattle.std.proofs.lemmas.Option.{none-some, same_Some}
use Rattle.std.specs.List.{All, AllByRecursion, IsDistinct, list_any}
use Rattle.std.specs.List.Sorted.{IsBinarySearchResult, IsNonDecreasingBy, IsPartitionPoint, IsPermutation, IsSearchInRange}
use Rattle.std.specs.Map.{lookup}
use Rattle.std.specs.Ordering.{nat_cmp, ordering_index}
use Rattle.std.specs.Prelude.{MatchResult, nat_lt}
use Rattle.plain_model.specs.declared.id.AnyId.{AnyId}
use Rattle.plain_model.specs.declared.event.PlainEvent.{PlainEvent}
use Rattle.plain_model.specs.Lookups.{event_marks, find_event, find_mark, id_of, marks_of, place_of, same_id}
use Rattle.plain_model.proofs.Numbers.{eqb_turned}
use Rattle.event_arena.specs.Indices.{IsMarkIndex, if_there}
use Rattle.history_laws.proofs.Ids.{place_at, placeless, same_id_refl, same_id_true}
use Rattle.history_laws.specs.Once.{AreDistinct, AreMarkedOnce, named}

-- each mark that occurs once is looked up
each_found : (ms : List (ℕ × AnyId)) → AreMarkedOnce ms → All (λ m. lookup (λ n. eqb m.0 n) ms ≡ Some m.1) ms
each_found [] once k d h = absurd (omega arith)
each_found (m ∷ ms) once zero d h = rw (eq-eqb m.0 m.0 refl) refl
each_found (m ∷ ms) once (suc k) d h =
    let later = each_found ms once.1 k d (omega arith) in
    let it = get_or ms k d in
    elim (cases_Bool (eqb it.0 m.0)) [
      | inl same ↦ absurd (none-some it.1 (sym once.0 ∙ ap (λ x. lookup (λ n. eqb x n) ms) (sym (eqb-true it.0 m.0 same)) ∙ later))
      | inr other ↦ rw other later
    ]

-- what is none of the marks is looked up in vain
none_found : (ms : List (ℕ × AnyId)) (mark : ℕ) → All (λ m. eqb mark m.0 ≡ false) ms → lookup (λ n. eqb mark n) ms ≡ None
none_found [] mark other = refl
none_found (m ∷ ms) mark other = rw (other 0 m (omega arith)) (none_found ms mark (λ k d h. other (suc k) d (omega arith)))

-- ---- marks in another order

-- no mark is looked up where none is found
unnamed : (ms : List (ℕ × AnyId)) (mark : ℕ) → lookup (λ n. eqb mark n) ms ≡ None → AllByRecursion (λ m. eqb mark m.0 ≡ false) ms
unnamed [] mark h = tt
unnamed (m ∷ ms) mark h = elim (cases_Bool (eqb mark m.0)) [
  | inl it ↦ absurd (none-some m.1 (sym h ∙ rw it refl))
  | inr no_it ↦ (no_it, unnamed ms mark (rw no_it at h))
]

all_items : (P : ℕ × AnyId → Type 0) (ms : List (ℕ × AnyId)) → AllByRecursion P ms → All P ms
all_items P [] h k d low = absurd (omega arith)
all_items P (m ∷ ms) h zero d low = h.0
all_items P (m ∷ ms) h (suc k) d low = all_items P ms h.1 k d (omega arith)

-- what is looked up in some marks is so in those that hold each of them
lookup_in : (all ms : List (ℕ × AnyId)) (mark : ℕ) (id : AnyId) → All (λ m. lookup (λ n. eqb m.0 n) all ≡ Some m.1) ms → lookup (λ n. eqb mark n) ms ≡ Some id →
    lookup (λ n. eqb mark n) all ≡ Some id
lookup_in all [] mark id each h = absurd (none-some id h)
lookup_in all (m ∷ ms) mark id each h = elim (cases_Bool (eqb mark m.0)) [
  | inl it ↦ ap (λ x. lookup (λ n. eqb x n) all) (eqb-true mark m.0 it) ∙ each 0 m (omega arith) ∙ (rw it at h)
  | inr no_it ↦ lookup_in all ms mark id (λ k d low. each (suc k) d (omega arith)) (rw no_it at h)
]

module _ (xs ys : List (ℕ × AnyId)) (once : AreMarkedOnce xs) (moved : IsPermutation xs ys) where
  lookup_moved : (mark : ℕ) → lookup (λ n. eqb mark n) xs ≡ lookup (λ n. eqb mark n) ys
  lookup_moved mark = by (lookup (λ n. eqb mark n) ys) refl
    where
      by : (o : Option AnyId) → lookup (λ n. eqb mark n) ys ≡ o → lookup (λ n. eqb mark n) xs ≡ o
      by None h = none_found xs mark (All-permutation (λ m. eqb mark m.0 ≡ false) ys xs (IsPermutation-sym xs ys moved) (all_items (λ m. eqb mark m.0 ≡ false) ys (unnamed ys mark h)))
      by (Some id) h = lookup_in xs ys mark id (All-permutation (λ m. lookup (λ n. eqb m.0 n) xs ≡ Some m.1) xs ys moved (each_found xs once)) h

  once_moved : AreMarkedOnce ys
  unfolding IsDistinct
  once_moved = back ys (IsDistinct-IsPermutation (λ m n. eqb m.0 n.0) (λ m n. eqb_turned m.0 n.0) xs ys moved (there xs once))
    where
      there : (ms : List (ℕ × AnyId)) → AreMarkedOnce ms → IsDistinct (λ m n. eqb m.0 n.0) ms
      there [] once = tt
      there (m ∷ ms) once = (unnamed ms m.0 once.0, there ms once.1)

      back : (ms : List (ℕ × AnyId)) → IsDistinct (λ m n. eqb m.0 n.0) ms → AreMarkedOnce ms
      back [] apart = tt
      back (m ∷ ms) apart = (none_found ms m.0 (all_items (λ n. eqb m.0 n.0 ≡ false) ms apart.0), back ms apart.1)

-- ---- events that have a mark

abbrev pub is_marked_by : ℕ → PlainEvent → Bool
is_marked_by mark e = list_any (λ n. eqb mark n) (event_marks e)

-- a mark is one of an event or is looked up among the others
lookup_named : (mark : ℕ) (id : AnyId) (own : List ℕ) (others : List (ℕ × AnyId)) →
    lookup (λ n. eqb mark n) (named id own ++ others) ≡ cond (list_any (λ n. eqb mark n) own) (Some id) (lookup (λ n. eqb mark n) others)
lookup_named mark id [] others = refl
lookup_named mark id (m ∷ own) others = elim (cases_Bool (eqb mark m)) [
  | inl it ↦ rw it refl
  | inr no_it ↦ rw no_it (lookup_named mark id own others)
]

-- where marks occur once, an event has none of the others' marks
others_apart : (id : AnyId) (own : List ℕ) (others : List (ℕ × AnyId)) → AreMarkedOnce (named id own ++ others) →
    AreMarkedOnce others × ((mark : ℕ) → list_any (λ n. eqb mark n) own ≡ true → lookup (λ n. eqb mark n) others ≡ None)
others_apart id [] others once = (once, λ mark has. absurd (true≢false (sym has)))
others_apart id (m ∷ own) others once =
    let rest = others_apart id own others once.1 in (
      rest.0,
      λ mark has. elim (cases_Bool (eqb mark m)) [
        | inl it ↦ ap (λ x. lookup (λ n. eqb x n) others) (eqb-true mark m it) ∙ none_later m (sym (lookup_named m id own others) ∙ once.0)
        | inr no_it ↦ rest.1 mark (rw no_it at has)
      ],
    )
  where
    none_later : (mark : ℕ) → cond (list_any (λ n. eqb mark n) own) (Some id) (lookup (λ n. eqb mark n) others) ≡ None → lookup (λ n. eqb mark n) others ≡ None
    none_later mark h = elim (cases_Bool (list_any (λ n. eqb mark n) own)) [
      | inl it ↦ absurd (none-some id (sym h ∙ rw it refl))
      | inr no_it ↦ rw no_it at h
    ]

-- the event whose id a mark gives is there, and has the mark
pub marked_there : (mark : ℕ) (id : AnyId) (es : List PlainEvent) → AreDistinct es → find_mark mark es ≡ Some id →
    (e : PlainEvent) × (find_event id es ≡ Some e) × (is_marked_by mark e ≡ true)
marked_there mark id [] once h = absurd (none-some id h)
marked_there mark id (e ∷ es) once h =
    let split = sym (lookup_named mark (id_of e) (event_marks e) (marks_of es)) ∙ h in
    elim (cases_Bool (is_marked_by mark e)) [
      | inl own ↦
          let is : id_of e ≡ id = same_Some (id_of e) id (rw own at split) in
          (e, rw (← is, same_id_refl (id_of e)) refl, own)
      | inr no_own ↦
          let later = marked_there mark id es once.1 (rw no_own at split) in
          elim (cases_Bool (same_id id (id_of e))) [
            | inl it ↦ absurd (none-some later.0 (sym (ap (λ i. find_event i es) (same_id_true id (id_of e) it) ∙ once.0) ∙ later.1))
            | inr no_it ↦ (later.0, rw no_it later.1, later.2)
          ]
    ]

-- a mark of an event that is found by its id gives the id
pub there_marked : (mark : ℕ) (id : AnyId) (e : PlainEvent) (es : List PlainEvent) → AreMarkedOnce (marks_of es) → find_event id es ≡ Some e → is_marked_by mark e ≡ true →
    find_mark mark es ≡ Some id
there_marked mark id e [] once h own = absurd (none-some e h)
there_marked mark id e (x ∷ es) once h own =
    let split = lookup_named mark (id_of x) (event_marks x) (marks_of es) in
    let apart = others_apart (id_of x) (event_marks x) (marks_of es) once in
    elim (cases_Bool (same_id id (id_of x))) [
      | inl it ↦
          let is : x ≡ e = same_Some x e (rw it at h) in
          split ∙ rw (ap (is_marked_by mark) is ∙ own) (ap Some (sym (same_id_true id (id_of x) it)))
      | inr no_it ↦
          let later = there_marked mark id e es apart.0 (rw no_it at h) own in
          elim (cases_Bool (is_marked_by mark x)) [
            | inl its ↦ absurd (none-some id (sym (apart.1 mark its) ∙ later))
            | inr not_its ↦ split ∙ rw not_its later
          ]
    ]

-- ---- the index

-- an id is there if a place is
there_by_place : (es : List PlainEvent) (id : AnyId) (place : Option ℕ) → place ≡ place_of id es → cond (is_some place) (Some id) None ≡ if_there es (Some id)
there_by_place es id None at = rw (placeless es id (sym at)) refl
there_by_place es id (Some k) at = rw ((place_at id es k (sym at)).2) refl

-- all marks of the events, in their order, are an index of them
pub index_made : (es : List PlainEvent) (ms : List (ℕ × AnyId)) → AreDistinct es → AreMarkedOnce (marks_of es) → IsPermutation (marks_of es) ms → IsNonDecreasingBy (λ m. m.0) ms → IsMarkIndex ms es
index_made es ms distinct once moved rising = record {
  named = λ mark. all_there mark (find_mark mark es) refl ∙ ap (if_there es) (lookup_moved (marks_of es) ms once moved mark);
  once = once_moved (marks_of es) ms once moved;
  rising = rising;
}
  where
    all_there : (mark : ℕ) (o : Option AnyId) → find_mark mark es ≡ o → o ≡ if_there es o
    all_there mark None h = refl
    all_there mark (Some id) h = rw ((marked_there mark id es distinct h).1) refl

module _ (ms : List (ℕ × AnyId)) (es : List PlainEvent) (mark : ℕ) (index : IsMarkIndex ms es) where
  -- the id beside the mark is that of the event with the mark, if it has a place
  pub mark_found : (at : ℕ) (d : ℕ × AnyId) (place : Option ℕ) → at < length ms → (get_or ms at d).0 ≡ mark → place ≡ place_of (get_or ms at d).1 es →
      cond (is_some place) (Some (get_or ms at d).1) None ≡ find_mark mark es
  mark_found at d place within same placed =
      there_by_place es (get_or ms at d).1 place placed
      ∙ sym (index.named mark ∙ ap (if_there es) (ap (λ x. lookup (λ n. eqb x n) ms) (sym same) ∙ each_found ms index.once at d within))

  rises : IsNonDecreasingBy (λ m. ordering_index (nat_cmp m.0 mark)) ms
  rises i j d le h = let keys = index.rising i j d le h in grind (arith, nat_tests, keys)

  -- no mark before the gap is so great, and none after it is so small
  pub mark_none : (at : ℕ) → (IsNonDecreasingBy (λ m. ordering_index (nat_cmp m.0 mark)) ms → IsPartitionPoint (λ m. nat_cmp m.0 mark ≡ Less) (λ m. nat_cmp m.0 mark ≡ Greater) ms at) →
      None ≡ find_mark mark es
  mark_none at parted =
      let parts = parted rises in
      sym (index.named mark ∙ ap (if_there es) (none_found ms mark
      (λ k d h. elim (cases_Bool (nat_lt k at)) [
        | inl before ↦ let less = ranked _ mark _ (sym (parts.0 k d (omega arith) (below k at before))) in differs_low _ mark less
        | inr after ↦ let more = ranked _ mark _ (sym (parts.1 k d (above k at after) h)) in differs_high _ mark more
      ])))
    where
      below : (k at : ℕ) → nat_lt k at ≡ true → k < at
      below k at h = grind (arith, nat_tests)

      above : (k at : ℕ) → nat_lt k at ≡ false → at ≤ k
      above k at h = grind (arith, nat_tests)

      differs_low : (m n : ℕ) → m < n → eqb n m ≡ false
      differs_low m n h = grind (arith, nat_tests)

      differs_high : (m n : ℕ) → n < m → eqb n m ≡ false
      differs_high m n h = grind (arith, nat_tests)

  -- halving ends at the mark, or where there is none
  pub searched : (r : Result ℕ ℕ) → IsSearchInRange r (length ms) → IsBinarySearchResult (λ m. nat_cmp m.0 mark) ms r →
      MatchResult r (λ at. (at < length ms) × ((d : ℕ × AnyId) → (get_or ms at d).0 ≡ mark)) (λ at. None ≡ find_mark mark es)
  searched (Ok at) within equal = (within, λ d. ranked _ mark _ (sym (equal d)))
  searched (Err at) within parted = mark_none at parted
