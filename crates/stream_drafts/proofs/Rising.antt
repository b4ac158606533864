-- Marks that rise.
use Rattle.std.proofs.Common.{◌≡◌, ◌∙◌, ℕ, zero, suc, ◌<◌, ◌≤◌, ◌+◌, ◌-◌, true, false, cond, inl, inr, List, [], ◌∷◌, ◌++◌, Option, Some, None, Result, Ok, Err, refl, sym, ap, get_or, length, arith}
use Rattle.std.proofs.lemmas.Bool.{cases_Bool}
use Rattle.std.proofs.lemmas.Bool.Decides.{nat_tests}
use Rattle.std.proofs.lemmas.Cmp.{ranked}
use Rattle.std.specs.List.Sorted.{IsBinarySearchResult, IsSearchInRange}
use Rattle.std.specs.Map.{lookup}
use Rattle.std.specs.Ordering.{nat_cmp}
use Rattle.std.specs.Prelude.{◌==◌, nat_lt, MatchResult}
use Rattle.stream_drafts.proofs.Aliased.{lookup_append}
use Rattle.stream_drafts.specs.Indexed.{first_of}
use Rattle.stream_drafts.specs.Rising.{RiseFrom, found_by, last_from}

same : (n : ℕ) → (n == n) ≡ true
same n = grind (arith, nat_tests)

other : (m n : ℕ) → m < n → (n == m) ≡ false
other m n h = grind (arith, nat_tests)

other_low : (m n : ℕ) → m < n → (m == n) ≡ false
other_low m n h = grind (arith, nat_tests)

-- each is above the mark before the first
pub above : (m : ℕ) (es : List (ℕ × ℕ)) → RiseFrom m es → (k : ℕ) (d : ℕ × ℕ) → k < length es → m < (get_or es k d).0
above m [] rise k d h = absurd (omega arith)
above m (e ∷ es) rise zero d h = rise.0
above m (e ∷ es) rise (suc k) d h = let low = rise.0 in let high = above e.0 es rise.1 k d (omega arith) in omega arith

-- a later one isn't below an earlier one
pub in_order : (m : ℕ) (es : List (ℕ × ℕ)) → RiseFrom m es → (i j : ℕ) (d : ℕ × ℕ) → i ≤ j → j < length es → (get_or es i d).0 ≤ (get_or es j d).0
in_order m [] rise i j d le h = absurd (omega arith)
in_order m (e ∷ es) rise zero zero d le h = omega arith
in_order m (e ∷ es) rise zero (suc j) d le h = let high = above e.0 es rise.1 j d (omega arith) in omega arith
in_order m (e ∷ es) rise (suc i) zero d le h = absurd (omega arith)
in_order m (e ∷ es) rise (suc i) (suc j) d le h = in_order e.0 es rise.1 i j d (omega arith) (omega arith)

-- each mark finds what is beside it
pub found_at : (m : ℕ) (es : List (ℕ × ℕ)) → RiseFrom m es → (k : ℕ) (d : ℕ × ℕ) → k < length es → lookup (λ a. a == (get_or es k d).0) es ≡ Some (get_or es k d).1
found_at m [] rise k d h = absurd (omega arith)
found_at m (e ∷ es) rise zero d h = rw (same e.0) refl
found_at m (e ∷ es) rise (suc k) d h = rw (other_low e.0 (get_or es k d).0 (above e.0 es rise.1 k d (omega arith))) (found_at e.0 es rise.1 k d (omega arith))

-- what is none of the marks finds nothing
pub found_nowhere : (es : List (ℕ × ℕ)) (n : ℕ) → ((k : ℕ) (d : ℕ × ℕ) → k < length es → ((get_or es k d).0 == n) ≡ false) → lookup (λ a. a == n) es ≡ None
found_nowhere [] n none = refl
found_nowhere (e ∷ es) n none = rw (none 0 e (omega arith)) (found_nowhere es n (λ k d h. none (suc k) d (omega arith)))

-- the last is at the end
pub last_at : (m : ℕ) (es : List (ℕ × ℕ)) (k : ℕ) (d : ℕ × ℕ) → k + 1 ≡ length es → last_from m es ≡ (get_or es k d).0
last_at m [] k d h = absurd (omega arith)
last_at m (e ∷ []) zero d h = refl
last_at m (e ∷ []) (suc k) d h = absurd (omega arith)
last_at m (e ∷ f ∷ es) zero d h = absurd (omega arith)
last_at m (e ∷ f ∷ es) (suc k) d h = last_at e.0 (f ∷ es) k d (omega arith)

-- none is above the last
pub last_is_highest : (m : ℕ) (es : List (ℕ × ℕ)) → RiseFrom m es → (k : ℕ) (d : ℕ × ℕ) → k < length es → (get_or es k d).0 ≤ last_from m es
last_is_highest m es rise k d h = let high = in_order m es rise k (length es - 1) d (omega arith) (omega arith) in let last = last_at m es (length es - 1) d (omega arith) in omega arith

pub none_above : (m : ℕ) (es : List (ℕ × ℕ)) → RiseFrom m es → (n : ℕ) → last_from m es < n → lookup (λ a. a == n) es ≡ None
none_above m es rise n h = found_nowhere es n (λ k d within. other_low (get_or es k d).0 n (let low = last_is_highest m es rise k d within in omega arith))

-- one more, above the last
pub rise_more : (m : ℕ) (es : List (ℕ × ℕ)) → RiseFrom m es → (n x : ℕ) → last_from m es < n → RiseFrom m (es ++ (n, x) ∷ [])
rise_more m [] rise n x h = (h, tt)
rise_more m (e ∷ es) rise n x h = (rise.0, rise_more e.0 es rise.1 n x h)

pub last_more : (m : ℕ) (es : List (ℕ × ℕ)) (n x : ℕ) → last_from m (es ++ (n, x) ∷ []) ≡ n
last_more m [] n x = refl
last_more m (e ∷ es) n x = last_more e.0 es n x

-- halving ends at the mark, or where there is none
pub halved : (es : List (ℕ × ℕ)) (n : ℕ) → RiseFrom 0 es → (r : Result ℕ ℕ) → IsSearchInRange r (length es) → IsBinarySearchResult (λ e. nat_cmp e.0 n) es r →
    MatchResult r (λ at. (d : ℕ × ℕ) → Some (get_or es at d).1 ≡ lookup (λ a. a == n) es) (λ at. None ≡ lookup (λ a. a == n) es)
halved es n rise (Ok at) within equal = λ d.
    sym (found_at 0 es rise at d within) ∙ ap (λ k. lookup (λ a. a == k) es) (ranked _ n _ (sym (equal d)))
halved es n rise (Err at) within parted =
    let parts = parted (λ i j d le h. let keys = in_order 0 es rise i j d le h in grind (arith, nat_tests, keys)) in
    sym (found_nowhere es n (λ k d h. elim (cases_Bool (nat_lt k at)) [
      | inl before ↦ let less = ranked _ n _ (sym (parts.0 k d (omega arith) (below k at before))) in other_low (get_or es k d).0 n less
      | inr after ↦ let more = ranked _ n _ (sym (parts.1 k d (past k at after) h)) in other n (get_or es k d).0 more
    ]))
  where
    below : (k at : ℕ) → nat_lt k at ≡ true → k < at
    below k at h = grind (arith, nat_tests)

    past : (k at : ℕ) → nat_lt k at ≡ false → at ≤ k
    past k at h = grind (arith, nat_tests)

-- one more above all others
pub found_more : (es : List (ℕ × ℕ)) (others : ℕ → Option ℕ) → RiseFrom 0 es → ((m : ℕ) → last_from 0 es < m → others m ≡ None) → (n x : ℕ) → last_from 0 es < n
    → (m : ℕ) → found_by (es ++ (n, x) ∷ []) others m ≡ first_of (found_by es others m) (cond (n == m) (Some x) None)
found_more es others rise no_other n x h m =
    elim (cases_Bool (n == m)) [
      | inl equal ↦
          let is : n ≡ m = grind (arith, nat_tests, equal) in
          ap (λ o. first_of o (others m)) (lookup_append es n x m)
          ∙ rw (equal, none_above 0 es rise m (omega arith), no_other m (omega arith)) refl
      | inr unequal ↦
          ap (λ o. first_of o (others m)) (lookup_append es n x m)
          ∙ rw unequal (drop_none (lookup (λ a. a == m) es) (others m))
    ]
  where
    drop_none : (a b : Option ℕ) → first_of (first_of a None) b ≡ first_of (first_of a b) None
    drop_none None None = refl
    drop_none None (Some y) = refl
    drop_none (Some y) b = refl
