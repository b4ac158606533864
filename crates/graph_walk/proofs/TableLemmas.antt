-- Expansions that are noted for some places, and one more of them.
use Rattle.std.proofs.Common.{◌≡◌, ◌∙◌, ℕ, zero, suc, ◌<◌, ◌≤◌, true, false, cond, inl, inr, ◌⊎◌, List, [], ◌∷◌, ◌++◌, refl, sym, ap, length, get_or, arith, eqb-true, ltb, ltb-true, ltb-false, length-append}
use Rattle.std.proofs.lemmas.Bool.{cases_Bool, eqb-false, ltb-true}
use Rattle.std.proofs.lemmas.List.{get_or_read}
use Rattle.std.specs.List.Sorted.{IsNonDecreasingBy, IsPartitionPoint}
use Rattle.std.specs.Prelude.{◌==◌, nat_lt}
use Rattle.edit_laws.proofs.Limits.{few}
use Rattle.graph_walk.specs.Table.{AreNoted, expansion_at, expansions_to}
use Rattle.graph_walk.specs.declared.expansion.Expansion.{Expansion}
use Rattle.graph_walk.specs.declared.expansion.Expansion.TheVariants.{At}
use Rattle.graph_walk.specs.declared.table.Entry.{Entry}

-- ---- entries

no_entry : Entry
no_entry = record { place = 0; expansion = At 0 }

-- one that has another place says nothing of this one
other_place : (x : Entry) (xs : List Entry) (k : ℕ) → (x.place ≡ k → ⊥) → expansion_at (x ∷ xs) k ≡ expansion_at xs k
other_place x xs k other = elim (cases_Bool (x.place == k)) [
  | inl it ↦ absurd (other (eqb-true x.place k it))
  | inr no_it ↦ ap (λ b. cond b x.expansion (expansion_at xs k)) no_it
]

same_place : (x : Entry) (xs : List Entry) (k : ℕ) → x.place ≡ k → expansion_at (x ∷ xs) k ≡ x.expansion
same_place x xs k same = elim (cases_Bool (x.place == k)) [
  | inl it ↦ ap (λ b. cond b x.expansion (expansion_at xs k)) it
  | inr no_it ↦ absurd (eqb-false x.place k no_it same)
]

-- where no entry has the place, the event stands for itself
none_noted : (xs : List Entry) (k : ℕ) → ((j : ℕ) → j < length xs → (get_or xs j no_entry).place ≡ k → ⊥) → expansion_at xs k ≡ At k
none_noted [] k none = refl
none_noted (x ∷ xs) k none = other_place x xs k (none 0 (omega arith)) ∙ none_noted xs k (λ j low. none (suc j) (omega arith))

-- the first entry that has it counts
first_noted : (xs : List Entry) (i k : ℕ) → i < length xs → ((j : ℕ) → j < i → (get_or xs j no_entry).place ≡ k → ⊥) → (get_or xs i no_entry).place ≡ k →
    expansion_at xs k ≡ (get_or xs i no_entry).expansion
first_noted [] i k low before own = absurd (omega arith)
first_noted (x ∷ xs) zero k low before own = same_place x xs k own
first_noted (x ∷ xs) (suc i) k low before own =
    other_place x xs k (before 0 (omega arith)) ∙ first_noted xs i k (omega arith) (λ j under. before (suc j) (omega arith)) own

-- ---- one entry more

before_last : (xs : List Entry) (x : Entry) (k : ℕ) → (x.place ≡ k → ⊥) → expansion_at (xs ++ x ∷ []) k ≡ expansion_at xs k
before_last [] x k other = other_place x [] k other
before_last (y ∷ xs) x k other = ap (λ e. cond (y.place == k) y.expansion e) (before_last xs x k other)

at_last : (xs : List Entry) (x : Entry) → ((j : ℕ) → j < length xs → (get_or xs j no_entry).place ≡ x.place → ⊥) → expansion_at (xs ++ x ∷ []) x.place ≡ x.expansion
at_last [] x none = same_place x [] x.place refl
at_last (y ∷ xs) x none = other_place y (xs ++ x ∷ []) x.place (none 0 (omega arith)) ∙ at_last xs x (λ j low. none (suc j) (omega arith))

before_all : (n : ℕ) (xs : List Entry) (x : Entry) → n ≤ x.place → expansions_to n (xs ++ x ∷ []) ≡ expansions_to n xs
before_all zero xs x past = refl
before_all (suc n) xs x past = λ i. before_all n xs x (omega arith) i ++ before_last xs x n (λ is. absurd (omega arith)) i ∷ []

module _ (count : ℕ) (xs : List Entry) (are : AreNoted count xs) where
  none_past : (k : ℕ) → count ≤ k → (j : ℕ) → j < length xs → (get_or xs j no_entry).place ≡ k → ⊥
  none_past k past j low is = let below = are.below j no_entry low in absurd (omega arith)

  -- the next event stays
  pub one_itself : expansions_to (suc count) xs ≡ expansions_to count xs ++ At count ∷ []
  one_itself = ap (λ e. expansions_to count xs ++ e ∷ []) (none_noted xs count (none_past count (omega arith)))

  -- or expands to this
  pub one_more : (e : Expansion) → expansions_to (suc count) (xs ++ record { place = count; expansion = e } ∷ []) ≡ expansions_to count xs ++ e ∷ []
  one_more e = λ i. before_all count xs (record { place = count; expansion = e }) (omega arith) i ++ at_last xs (record { place = count; expansion = e }) (none_past count (omega arith)) i ∷ []

-- ---- the expansion at a place

pub length_to : (n : ℕ) (xs : List Entry) → length (expansions_to n xs) ≡ n
length_to zero xs = refl
length_to (suc n) xs = length-append (expansions_to n xs) (expansion_at xs n ∷ []) ∙ let rest = length_to n xs in omega arith

pub get_to : (n : ℕ) (xs : List Entry) (k : ℕ) (default : Expansion) → k < n → get_or (expansions_to n xs) k default ≡ expansion_at xs k
get_to zero xs k default low = absurd (omega arith)
get_to (suc n) xs k default low = elim (either k n) [
  | inl before ↦ get_front (expansions_to n xs) (expansion_at xs n) k default (let all = length_to n xs in omega arith) ∙ get_to n xs k default before
  | inr last ↦ get_last (expansions_to n xs) (expansion_at xs n) k default (let all = length_to n xs in omega arith) ∙ ap (expansion_at xs) (let same : n ≡ k = omega arith in same)
]
  where
    either : (a b : ℕ) → (a < b) ⊎ (b ≤ a)
    either a b = grind arith

    get_front : (es : List Expansion) (e : Expansion) (k : ℕ) (default : Expansion) → k < length es → get_or (es ++ e ∷ []) k default ≡ get_or es k default
    get_front [] e k default low = absurd (omega arith)
    get_front (d ∷ es) e zero default low = refl
    get_front (d ∷ es) e (suc k) default low = get_front es e k default (omega arith)

    get_last : (es : List Expansion) (e : Expansion) (k : ℕ) (default : Expansion) → k ≡ length es → get_or (es ++ e ∷ []) k default ≡ e
    get_last [] e k default is = ap (λ n. get_or (e ∷ []) n default) is
    get_last (d ∷ es) e k default is = ap (λ n. get_or ((d ∷ es) ++ e ∷ []) n default) is ∙ get_last es e (length es) default refl

-- ---- halving

module _ (xs : List Entry) (i place : ℕ) (point : IsPartitionPoint (λ (x : Entry). ltb x.place place ≡ true) (λ (x : Entry). ltb x.place place ≡ false) xs i) where
  earlier : (j : ℕ) → j < length xs → j < i → (get_or xs j no_entry).place < place
  earlier j low under = ltb-true (get_or xs j no_entry).place place (point.0 j no_entry (omega arith) under)

  later : (j : ℕ) → i ≤ j → j < length xs → place ≤ (get_or xs j no_entry).place
  later j from low = ltb-false (get_or xs j no_entry).place place (point.1 j no_entry from low)

  -- the first entry that isn't earlier, if it has the place
  pub noted_here : (entry : Entry) → true ≡ nat_lt i (length xs) → entry ≡ get_or xs i entry → entry.place ≡ place → entry.expansion ≡ expansion_at xs place
  noted_here entry within is own =
      let low = ltb-true i (length xs) (sym within) in
      let here = sym (get_or_read xs i entry low is no_entry) in
      ap (λ (x : Entry). x.expansion) (sym here)
      ∙ sym (first_noted xs i place low (λ j under same. let below = earlier j (omega arith) under in absurd (omega arith))
      (ap (λ (x : Entry). x.place) here ∙ own))

  -- none has it, where all are earlier, and where that one has another
  pub all_earlier : false ≡ nat_lt i (length xs) → At place ≡ expansion_at xs place
  all_earlier past =
      let over = few i (length xs) (sym past) in
      sym (none_noted xs place (λ j low same. let below = earlier j low (omega arith) in absurd (omega arith)))

  pub noted_elsewhere : IsNonDecreasingBy (λ (x : Entry). x.place) xs → (entry : Entry) → true ≡ nat_lt i (length xs) → entry ≡ get_or xs i entry → (entry.place ≡ place → ⊥) →
      At place ≡ expansion_at xs place
  noted_elsewhere rising entry within is other =
      let low = ltb-true i (length xs) (sym within) in
      let here = ap (λ (x : Entry). x.place) (sym (get_or_read xs i entry low is no_entry)) in
      let from = later i (omega arith) low in
      sym (none_noted xs place (λ j under same. elim (either j i) [
        | inl before ↦ let below = earlier j under before in absurd (omega arith)
        | inr after ↦ let up = rising i j no_entry after under in absurd (omega arith)
      ]))
    where
      either : (a b : ℕ) → (a < b) ⊎ (b ≤ a)
      either a b = grind arith
