-- Lists of commits without repeats, and what dropping repeats leaves.
use Rattle.std.proofs.Common.{Bool, List, [], ap, arith, cond, false, filter, length, not, refl, suc, sym, true, true≢false, ℕ, ◌∙◌, ◌∷◌, ◌≡◌, ◌≤◌}
use Rattle.std.proofs.lemmas.Bool.{and_parts, or_parts}
use Rattle.std.specs.List.{list_any}
use Rattle.std.specs.Prelude.{◌==◌}
use Rattle.plain_model.specs.Soundness.{are_distinct}
use Rattle.edit_laws.specs.Removal.{once_each}

pub shorter_filter : (test : ℕ → Bool) (xs : List ℕ) → length (filter test xs) ≤ length xs
shorter_filter test [] = omega arith
shorter_filter test (x ∷ xs) =
    let rest = shorter_filter test xs in
    elim (test x) as (λ b. length (cond b (x ∷ filter test xs) (filter test xs)) ≤ suc (length xs)) [ true ↦ omega arith | false ↦ omega arith ]

pub shorter_once : (xs : List ℕ) → length (once_each xs) ≤ length xs
shorter_once [] = omega arith
shorter_once (x ∷ xs) = let one = shorter_filter (λ y. not (y == x)) (once_each xs) in let rest = shorter_once xs in omega arith

-- where nothing is twice, no repeat is dropped
pub all_others : (x : ℕ) (xs : List ℕ) → list_any (λ m. m == x) xs ≡ false → filter (λ y. not (y == x)) xs ≡ xs
all_others x [] h = refl
all_others x (y ∷ xs) h =
    let parts = or_parts (y == x) (list_any (λ m. m == x) xs) h in
    ap (λ b. cond (not b) (y ∷ filter (λ z. not (z == x)) xs) (filter (λ z. not (z == x)) xs)) parts.0
    ∙ ap (λ (l : List ℕ). y ∷ l) (all_others x xs parts.1)

pub distinct_once : (xs : List ℕ) → are_distinct xs ≡ true → once_each xs ≡ xs
distinct_once [] h = refl
distinct_once (x ∷ xs) h =
    let parts = and_parts (not (list_any (λ m. m == x) xs)) (are_distinct xs) h in
    ap (λ (l : List ℕ). x ∷ filter (λ y. not (y == x)) l) (distinct_once xs parts.1)
    ∙ ap (λ (l : List ℕ). x ∷ l) (all_others x xs (none (list_any (λ m. m == x) xs) parts.0))
  where
    none : (b : Bool) → not b ≡ true → b ≡ false
    none true h = absurd (true≢false (sym h))
    none false h = refl
