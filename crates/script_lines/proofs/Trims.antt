-- What counts of a line, by its last byte.
use Rattle.std.proofs.Common.{◌≡◌, ℕ, ◌+◌, ◌-◌, ◌<◌, ◌≤◌, true, false, List, [], ◌∷◌, ◌++◌, length, take, get_or, refl, sym, ap, subst, ◌∙◌, arith}
use Rattle.std.proofs.lemmas.Bool.Decides.{nat_tests}
use Rattle.std.proofs.lemmas.List.{take_more}
use Rattle.script_lines.specs.Scripts.{is_margin, in_front, without_back}

in_front_more : (x : ℕ) (xs : List ℕ) (y : ℕ) → in_front x (xs ++ y ∷ []) ≡ x ∷ (xs ++ y ∷ [])
in_front_more x [] y = refl
in_front_more x (z ∷ zs) y = refl

-- a last byte that doesn't count goes
without_last : (xs : List ℕ) (y : ℕ) → is_margin y ≡ true → without_back (xs ++ y ∷ []) ≡ without_back xs
without_last [] y h = rw h refl
without_last (x ∷ xs) y h = ap (in_front x) (without_last xs y h)

-- after a last byte that counts nothing goes
with_last : (xs : List ℕ) (y : ℕ) → is_margin y ≡ false → without_back (xs ++ y ∷ []) ≡ xs ++ y ∷ []
with_last [] y h = rw h refl
with_last (x ∷ xs) y h = ap (in_front x) (with_last xs y h) ∙ in_front_more x xs y

module _ (bytes : List ℕ) (n : ℕ) (some : 0 < n) (within : n ≤ length bytes) where
  -- the first bytes, by the last of them
  by_last : take n bytes ≡ take (n - 1) bytes ++ get_or bytes (n - 1) 0 ∷ []
  by_last =
      let same : n - 1 + 1 ≡ n = omega arith in
      subst (λ m. take m bytes ≡ take (n - 1) bytes ++ get_or bytes (n - 1) 0 ∷ []) same (take_more bytes (n - 1) 0 (omega arith))

  pub one_less : is_margin (get_or bytes (n - 1) 0) ≡ true → without_back (take (n - 1) bytes) ≡ without_back (take n bytes)
  one_less h = rw by_last (sym (without_last (take (n - 1) bytes) (get_or bytes (n - 1) 0) h))

  pub all_stay : is_margin (get_or bytes (n - 1) 0) ≡ false → without_back (take n bytes) ≡ take n bytes
  all_stay h = rw by_last (with_last (take (n - 1) bytes) (get_or bytes (n - 1) 0) h)

-- what doesn't count is ASCII
pub margin_small : (b : ℕ) → is_margin b ≡ true → b < 128
margin_small b h = grind (arith, nat_tests)
