-- Numbers: whether two are equal, and what digits say.
use Rattle.std.proofs.Common.{◌≡◌, ℕ, ◌+◌, ◌-◌, ◌*◌, ◌<◌, false, [], ◌∷◌, ◌++◌, refl, sym, ◌∙◌, inl, inr, eqb, eqb-true, eq-eqb, ne_eqb, arith}
use Rattle.std.proofs.lemmas.Bool.{cases_Bool, eqb-false}
use Rattle.std.proofs.lemmas.Bool.Decides.{nat_tests}
use Rattle.plain_model.specs.Numbers.{value_after}
use Rattle.plain_model.specs.Paths.{Bytes}

-- it may be asked either way
pub eqb_turned : (a b : ℕ) → eqb a b ≡ eqb b a
eqb_turned a b = elim (cases_Bool (eqb b a)) [
  | inl same ↦ eq-eqb a b (sym (eqb-true b a same)) ∙ sym same
  | inr other ↦ ne_eqb a b (λ e. eqb-false b a other (sym e)) ∙ sym other
]

-- a lower one is another
pub eqb_lower : (a b : ℕ) → a < b → eqb a b ≡ false
eqb_lower a b h = grind (arith, nat_tests)

-- the value with one more digit
pub value_push : (a : ℕ) (ds : Bytes) (d : ℕ) → value_after a (ds ++ d ∷ []) ≡ 10 * value_after a ds + (d - 48)
value_push a [] d = refl
value_push a (x ∷ xs) d = value_push (10 * a + (x - 48)) xs d
