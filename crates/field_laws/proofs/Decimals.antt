-- The digits that are written of a number: they say it, and below 10^64 they are those of the library.
use Rattle.std.proofs.Common.{◌≡◌, ℕ, zero, suc, ◌+◌, ◌-◌, ◌*◌, ◌/◌, ◌%◌, ◌^◌, ◌≤◌, ◌<◌, Bool, true, false, [], ◌∷◌, ◌++◌, refl, sym, ap, subst, ◌∙◌, inl, inr, arith, length-append, le-leb}
use Rattle.std.specs.Prelude.{nat_le, nat_lt, decimal}
use Rattle.std.specs.List.{list_all}
use Rattle.std.proofs.lemmas.Bool.{and_from, cases_Bool}
use Rattle.std.proofs.lemmas.Bool.Decides.{nat_tests}
use Rattle.std.proofs.lemmas.Fmt.{decimal_by_steps_wide}
use Rattle.std.proofs.lemmas.List.Folds.{list_all-append}
use Rattle.plain_model.specs.Paths.{Bytes}
use Rattle.plain_model.specs.Numbers.{IsNumeral, decimal_of, digits_within, is_digit}
use Rattle.plain_model.proofs.Numbers.{value_push}

-- 48 and a number below 10 is a digit
pub digit : (d : ℕ) → d < 10 → is_digit (48 + d) ≡ true
digit d h = and_from (nat_le 48 (48 + d)) (nat_le (48 + d) 57) (le-leb 48 (48 + d) (omega arith)) (le-leb (48 + d) 57 (omega arith))

-- a number below 10 has one digit
one_digit : (most n : ℕ) → n < 10 → digits_within (suc most) n ≡ (48 + n) ∷ []
one_digit most n h = go (nat_lt n 10) (grind (arith, nat_tests))
  where
    go : (b : Bool) → b ≡ true → (elim b [ true ↦ [] | false ↦ digits_within most (n / 10) ]) ++ (48 + n % 10) ∷ [] ≡ (48 + n) ∷ []
    go true e = ap (λ d. (48 + d) ∷ []) (let is : n % 10 ≡ n = omega arith in is)
    go false e = absurd cc

-- a greater number has those of its tenth and a last one
more_digits : (most n : ℕ) → 10 ≤ n → digits_within (suc most) n ≡ digits_within most (n / 10) ++ (48 + n % 10) ∷ []
more_digits most n h = go (nat_lt n 10) (grind (arith, nat_tests))
  where
    go : (b : Bool) → b ≡ false → (elim b [ true ↦ [] | false ↦ digits_within most (n / 10) ]) ++ (48 + n % 10) ∷ [] ≡ digits_within most (n / 10) ++ (48 + n % 10) ∷ []
    go true e = absurd cc
    go false e = refl

-- what holds of one digit, and of one digit more, holds of all
module _ (P : ℕ → Bytes → Type 0) (one : (n : ℕ) → n < 10 → P n ((48 + n) ∷ [])) (more : (n : ℕ) (ds : Bytes) → 10 ≤ n → P (n / 10) ds → P n (ds ++ (48 + n % 10) ∷ [])) where
  within_by_steps : (most n : ℕ) → n < most → P n (digits_within most n)
  within_by_steps zero n h = absurd (omega arith)
  within_by_steps (suc most) n h = elim (cases_Bool (nat_lt n 10)) [
    | inl small ↦ let low : n < 10 = grind (arith, nat_tests) in subst (P n) (sym (one_digit most n low)) (one n low)
    | inr great ↦
        let high : 10 ≤ n = grind (arith, nat_tests) in
        subst (P n) (sym (more_digits most n high)) (more n (digits_within most (n / 10)) high (within_by_steps most (n / 10) (omega arith)))
  ]

  pub decimal_of_by_steps : (n : ℕ) → P n (decimal_of n)
  unfolding decimal_of
  decimal_of_by_steps n = within_by_steps (suc n) n (omega arith)

-- how many digits there may be doesn't count
as_many : (a b n : ℕ) → n < a → n < b → digits_within a n ≡ digits_within b n
as_many zero b n h k = absurd (omega arith)
as_many (suc a) zero n h k = absurd (omega arith)
as_many (suc a) (suc b) n h k = elim (cases_Bool (nat_lt n 10)) [
  | inl small ↦ let low : n < 10 = grind (arith, nat_tests) in one_digit a n low ∙ sym (one_digit b n low)
  | inr great ↦
      let high : 10 ≤ n = grind (arith, nat_tests) in
      more_digits a n high ∙ ap (λ (ds : Bytes). ds ++ (48 + n % 10) ∷ []) (as_many a b (n / 10) (omega arith) (omega arith)) ∙ sym (more_digits b n high)
]

-- the digits say the number
pub numeral_of : (n : ℕ) → IsNumeral (decimal_of n) n
numeral_of = decimal_of_by_steps (λ n ds. IsNumeral ds n)
    (λ n h. record { some = omega arith; all = and_from (is_digit (48 + n)) true (digit n h) refl; value = omega arith })
    (λ n ds h p. record {
      some = omega (arith, length-append ds ((48 + n % 10) ∷ []));
      all = list_all-append is_digit ds ((48 + n % 10) ∷ []) ∙ and_from (list_all is_digit ds) (list_all is_digit ((48 + n % 10) ∷ [])) p.all (and_from (is_digit (48 + n % 10)) true (digit (n % 10) (omega arith)) refl);
      value = value_push 0 ds (48 + n % 10) ∙ ap (λ v. 10 * v + (48 + n % 10 - 48)) p.value ∙ (omega arith);
    })

-- those of the library
pub decimal_of_is : (n : ℕ) → n < 10 ^ 64 → decimal_of n ≡ decimal n
unfolding decimal_of
decimal_of_is n h = sym (decimal_by_steps_wide (λ n ds. ds ≡ digits_within (suc n) n)
    (λ n h. sym (one_digit n n h))
    (λ n ds h p. ap (λ (l : Bytes). l ++ (48 + n % 10) ∷ []) (p ∙ as_many (suc (n / 10)) n (n / 10) (omega arith) (omega arith)) ∙ sym (more_digits n n h))
    n h)
