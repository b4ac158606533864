-- Rows of waiters, and places in ascending order.
use Rattle.std.proofs.Common.{◌≡◌, ◌∙◌, ℕ, zero, suc, ◌<◌, Bool, true, false, cond, ◌||◌, inl, inr, List, [], ◌∷◌, Option, Some, None, refl, sym, ap, subst, length, get_or, eqb, eq-eqb, arith}
use Rattle.plain_model.proofs.Numbers.{eqb_turned}
use Rattle.std.proofs.lemmas.Bool.{cases_Bool, eqb-true, true≢false, or_cases, ltb-true}
use Rattle.std.proofs.lemmas.Bool.Decides.{nat_tests}
use Rattle.std.proofs.lemmas.List.Elements.{recursion_from_All}
use Rattle.std.proofs.Math.ListN.{set}
use Rattle.std.specs.BTreeMap.{is_at}
use Rattle.std.specs.BTreeMap.Range.{IsLtBy}
use Rattle.std.specs.List.{All, AllByRecursion, list_any}
use Rattle.std.specs.Ordering.{is_eq, nat_cmp}
use Rattle.std.specs.Prelude.{IfNone, IfSome, IsSome, MatchOption, Vec, nat_lt}
use Rattle.std.specs.declared.cmp.Ordering.TheVariants.{Less, Equal, Greater}
use Rattle.graph_walk.specs.Rows.{rows_of}
use Rattle.graph_walk.specs.Waiters.{TakesLeast, is_among}
use Rattle.graph_walk.specs.declared.waiting.Waiter.{Waiter}

-- ---- rows

module _ {A : Type 0} where
  pub rows_set : (rows : List (Vec Waiter A)) (p : ℕ) (v : Vec Waiter A) (xs : List Waiter) → v.items ≡ xs →
      rows_of (set rows p v) ≡ set (rows_of rows) p xs
  rows_set [] p v xs h = refl
  rows_set (r ∷ rows) zero v xs h = ap (λ ys. ys ∷ rows_of rows) h
  rows_set (r ∷ rows) (suc p) v xs h = ap (λ ys. r.items ∷ ys) (rows_set rows p v xs h)

  pub rows_read : (rows : List (Vec Waiter A)) (p : ℕ) (v : Vec Waiter A) → p < length (rows_of rows) →
      v ≡ get_or rows p v → v.items ≡ get_or (rows_of rows) p []
  rows_read [] p v low h = absurd (omega arith)
  rows_read (r ∷ rows) zero v low h = ap (λ (x : Vec Waiter A). x.items) h
  rows_read (r ∷ rows) (suc p) v low h = rows_read rows p v (omega arith) h

-- ---- places in order

-- the order's test of equality
at_eqb : (a b : ℕ) → is_at (nat_cmp a) b ≡ eqb a b
at_eqb a b = elim (cases_Bool (nat_lt a b)) [
  | inl it ↦ rw it (sym (apart a b it))
  | inr no_it ↦ rw no_it (either (eqb a b))
]
  where
    apart : (a b : ℕ) → nat_lt a b ≡ true → eqb a b ≡ false
    apart a b h = grind (arith, nat_tests)

    either : (t : Bool) → is_eq (cond t Equal Greater) ≡ t
    either true = refl
    either false = refl

any_same : (f g : ℕ → Bool) → ((x : ℕ) → f x ≡ g x) → (xs : List ℕ) → list_any f xs ≡ list_any g xs
any_same f g h [] = refl
any_same f g h (x ∷ xs) = ap (λ b. b || list_any f xs) (h x) ∙ ap (λ b. g x || b) (any_same f g h xs)

pub among_at : (k : ℕ) (xs : List ℕ) → list_any (is_at (nat_cmp k)) xs ≡ is_among k xs
among_at k xs = any_same (is_at (nat_cmp k)) (λ x. eqb k x) (at_eqb k) xs

-- one place more
pub among_more : (place : ℕ) (old new : List ℕ) →
    ((q : ℕ) → list_any (is_at (nat_cmp q)) new ≡ cond (is_at (nat_cmp place) q) true (list_any (is_at (nat_cmp q)) old)) →
    (k : ℕ) → is_among k new ≡ eqb k place || is_among k old
among_more place old new h k =
    sym (among_at k new) ∙ h k ∙ ap (λ b. cond b true (list_any (is_at (nat_cmp k)) old)) (at_eqb place k ∙ eqb_turned place k)
    ∙ ap (λ t. cond (eqb k place) true t) (among_at k old) ∙ either (eqb k place) (is_among k old)
  where
    either : (a b : Bool) → cond a true b ≡ a || b
    either true b = refl
    either false b = refl

less : (a b : ℕ) → nat_cmp a b ≡ Less → a < b
less a b h = elim (cases_Bool (nat_lt a b)) [
  | inl it ↦ ltb-true a b it
  | inr no_it ↦ absurd (never (eqb a b) (rw no_it at h))
]
  where
    never : (t : Bool) → cond t Equal Greater ≡ Less → ⊥
    never true h = cc
    never false h = cc

above_all : (place : ℕ) (xs : List ℕ) → AllByRecursion (IsLtBy nat_cmp place) xs → (k : ℕ) → is_among k xs ≡ true →
    place < k
above_all place [] all k h = absurd (true≢false (sym h))
above_all place (x ∷ xs) all k h = elim (or_cases (eqb k x) (is_among k xs) h) [
  | inl it ↦ subst (λ n. place < n) (sym (eqb-true k x it)) (less place x all.0)
  | inr later ↦ above_all place xs all.1 k later
]

-- the least is taken away, if there is one
pub least_taken : (r : Option ℕ) (old new : List ℕ) → IfSome r (λ k. old ≡ k ∷ new) →
    IfSome r (λ k. All (IsLtBy nat_cmp k) new) → IfNone r (new ≡ old) → (0 < length old → IsSome r) →
    MatchOption r ((old ≡ []) × (new ≡ [])) (λ place. TakesLeast place old new)
least_taken None old new removal above same some = by old same (λ h. true≢false (sym (some h)))
  where
    by : (old : List ℕ) → new ≡ old → (0 < length old → ⊥) → (old ≡ []) × (new ≡ [])
    by [] same some = (refl, same)
    by (x ∷ old) same some = absurd (some (omega arith))
least_taken (Some k) old new removal above same some = record {
  was = ap (is_among k) removal ∙ rw (eq-eqb k k refl) refl;
  others = λ j. ap (is_among j) removal;
  fewer = ap length removal;
  above = above_all k new (recursion_from_All (IsLtBy nat_cmp k) new above);
}
