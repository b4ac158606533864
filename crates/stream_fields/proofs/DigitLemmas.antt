-- Numbers in digits only grow.
use Rattle.std.proofs.Common.{◌≡◌, ℕ, ◌+◌, ◌-◌, ◌*◌, ◌<◌, ◌≤◌, Bool, true, false, cond, List, [], ◌∷◌, length, get_or, drop, Option, None, refl, sym, ap, ◌∙◌, ◌≢◌, arith}
use Rattle.std.specs.Prelude.{is_some, ◌&&◌, ◌==◌}
use Rattle.std.specs.List.{list_all}
use Rattle.std.proofs.lemmas.Bool.Decides.{nat_tests}
use Rattle.plain_model.specs.Parts.{◌>>=◌}
use Rattle.plain_model.specs.Numbers.{is_digit}
use Rattle.plain_model.specs.Parts.{value_from, at_most, number_of, number_within}
use Rattle.std.proofs.lemmas.List.{at_drop_more}

pub value_from_above : (most : ℕ) (ds : List ℕ) (n : ℕ) → most < n → (value_from n ds >>= λ v. at_most most v) ≡ None
value_from_above most [] n h = grind (arith, nat_tests)
value_from_above most (d ∷ ds) n h = above (is_digit d) (value_from (10 * n + (d - 48)) ds) (value_from_above most ds (10 * n + (d - 48)) (omega arith))
  where
    above : (b : Bool) (o : Option ℕ) → (o >>= λ v. at_most most v) ≡ None → (cond b o None >>= λ v. at_most most v) ≡ None
    above true o e = e
    above false o e = refl

within_is : (most : ℕ) (text : List ℕ) → text ≢ [] → number_within most text ≡ (value_from 0 text >>= λ v. at_most most v)
unfolding number_within number_of
within_is most [] h = absurd (h refl)
within_is most (d ∷ ds) h = refl

-- no number where the digits so far and the next say more than the most
pub over_at : (most : ℕ) (text : List ℕ) (i v : ℕ) → i < length text → 48 ≤ get_or text i 0 → get_or text i 0 ≤ 57 → value_from v (drop i text) ≡ value_from 0 text → most < 10 * v + (get_or text i 0 - 48) → number_within most text ≡ None
over_at most text i v lt low high same above =
    let d = get_or text i 0 in
    let here : value_from v (drop i text) ≡ value_from (10 * v + (d - 48)) (drop (i + 1) text) =
    at_drop_more (value_from v) text i 0 lt ∙ grind (arith, nat_tests) in
    within_is most text (λ e. absurd (omega (arith, ap length e)))
    ∙ ap (λ (o : Option ℕ). o >>= λ x. at_most most x) (sym same ∙ here)
    ∙ value_from_above most (drop (i + 1) text) (10 * v + (d - 48)) above

-- digits say a number
pub is_some_value_from : (n : ℕ) (ds : List ℕ) → is_some (value_from n ds) ≡ list_all is_digit ds
is_some_value_from n [] = refl
is_some_value_from n (d ∷ ds) = go (is_digit d) (is_some_value_from (10 * n + (d - 48)) ds)
  where
    go : (b : Bool) → is_some (value_from (10 * n + (d - 48)) ds) ≡ list_all is_digit ds → is_some (cond b (value_from (10 * n + (d - 48)) ds) None) ≡ (b && list_all is_digit ds)
    go true e = e
    go false e = refl

pub is_some_number_of : (ds : List ℕ) → ds ≢ [] → is_some (number_of ds) ≡ list_all is_digit ds
unfolding number_of
is_some_number_of [] h = absurd (h refl)
is_some_number_of (d ∷ ds) h = is_some_value_from 0 (d ∷ ds)

pub some_bytes : (ds : List ℕ) → (length ds == 0) ≡ false → ds ≢ []
some_bytes [] h = absurd (cc)
some_bytes (d ∷ ds) h = λ e. absurd (cc)
