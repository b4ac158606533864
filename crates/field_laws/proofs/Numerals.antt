-- Numbers and marks: digits are read exactly where they say the number.
use Rattle.std.proofs.Common.{◌≡◌, ℕ, ◌+◌, ◌-◌, ◌*◌, ◌≤◌, ◌<◌, Bool, true, false, cond, [], ◌∷◌, ◌++◌, length, Some, None, refl, ap, subst, ◌∙◌, arith, leb-true, le-leb, codes}
use Rattle.std.specs.Prelude.{◌&&◌, nat_le, ◌==◌, Err, Ok}
use Rattle.std.specs.List.{list_all}
use Rattle.std.proofs.lemmas.Bool.{and_parts, and_from, cond-true}
use Rattle.std.proofs.lemmas.Option.{same_Some, none-some, cond_some, some_pair_parts}
use Rattle.plain_model.specs.declared.limit.TheConstants.{MAX_MARK}
use Rattle.plain_model.specs.Paths.{Bytes}
use Rattle.plain_model.specs.Marks.{IsMark, as_mark}
use Rattle.plain_model.specs.Numbers.{is_digit, value_after, IsNumeral}
use Rattle.plain_model.specs.Parts.{◌>>=◌, rest_after, line_at, value_from, number_of, at_most, number_within, mark_of}
use Rattle.plain_model.specs.declared.fault.Why.TheVariants.{BadMark}
use Rattle.plain_model.specs.Fields.{mark_in, or_defect}
use Rattle.field_laws.proofs.Steps.{bind_some, some_then}
use Rattle.field_laws.proofs.FieldSteps.{or_defect_is}

-- ---- numbers

value_is : (n : ℕ) (digits : Bytes) (v : ℕ) → value_from n digits ≡ Some v → (list_all is_digit digits ≡ true) × (value_after n digits ≡ v)
value_is n [] v e = (refl, same_Some n v e)
value_is n (d ∷ ds) v e = go (is_digit d) refl e (value_is (10 * n + (d - 48)) ds v)
  where
    more : ℕ
    more = 10 * n + (d - 48)

    go : (t : Bool) → is_digit d ≡ t → cond t (value_from more ds) None ≡ Some v → (value_from more ds ≡ Some v → (list_all is_digit ds ≡ true) × (value_after more ds ≡ v))
        → ((is_digit d && list_all is_digit ds) ≡ true) × (value_after more ds ≡ v)
    go true f h again = let rest = again h in (and_from (is_digit d) (list_all is_digit ds) f rest.0, rest.1)
    go false f h again = absurd (none-some v h)

value_read : (n : ℕ) (digits : Bytes) → list_all is_digit digits ≡ true → value_from n digits ≡ Some (value_after n digits)
value_read n [] h = refl
value_read n (d ∷ ds) h =
    let parts = and_parts (is_digit d) (list_all is_digit ds) h in
    cond-true (is_digit d) (value_from (10 * n + (d - 48)) ds) None parts.0 ∙ value_read (10 * n + (d - 48)) ds parts.1

pub numeral_is : (digits : Bytes) (n : ℕ) → number_of digits ≡ Some n → IsNumeral digits n
unfolding number_of
numeral_is [] n e = absurd (none-some n e)
numeral_is (d ∷ ds) n e = let parts = value_is 0 (d ∷ ds) n e in record { some = omega arith; all = parts.0; value = parts.1 }

pub numeral_read : (digits : Bytes) (n : ℕ) → IsNumeral digits n → number_of digits ≡ Some n
unfolding number_of
numeral_read [] n h = absurd (let s = h.some in omega arith)
numeral_read (d ∷ ds) n h = value_read 0 (d ∷ ds) h.all ∙ ap (λ v. Some v) h.value

pub within_is : (most : ℕ) (digits : Bytes) (n : ℕ) → number_within most digits ≡ Some n → IsNumeral digits n × (n ≤ most)
unfolding number_within
within_is most digits n e =
    let a = bind_some (number_of digits) (λ n. at_most most n) n e in
    let b = cond_some (nat_le a.0 most) a.0 n a.2 in (
      subst (IsNumeral digits) b.1 (numeral_is digits a.0 a.1),
      subst (λ k. k ≤ most) b.1 (leb-true a.0 most b.0),
    )

pub within_read : (most : ℕ) (digits : Bytes) (n : ℕ) → IsNumeral digits n → n ≤ most → number_within most digits ≡ Some n
unfolding number_within
within_read most digits n h le =
    some_then (number_of digits) (λ n. at_most most n) n (Some n) (numeral_read digits n h) (cond-true (nat_le n most) (Some n) None (le-leb n most le))

-- ---- marks

pub mark_is : (digits : Bytes) (m : ℕ) → mark_of digits ≡ Some m → IsNumeral digits m × IsMark m
unfolding mark_of
mark_is digits m e =
    let a = bind_some (number_within MAX_MARK digits) (λ m. as_mark m) m e in
    let n = within_is MAX_MARK digits a.0 a.1 in
    let b = cond_some (nat_le 1 a.0 && nat_le a.0 MAX_MARK) a.0 m a.2 in
    let bounds = and_parts (nat_le 1 a.0) (nat_le a.0 MAX_MARK) b.0 in (
      subst (IsNumeral digits) b.1 n.0,
      subst IsMark b.1 (leb-true 1 a.0 bounds.0, leb-true a.0 MAX_MARK bounds.1),
    )

-- a text with a colon and a number is a mark
pub mark_fits : (text : Bytes) (m : ℕ) → mark_in text ≡ Ok m → IsMark m
unfolding mark_in
mark_fits [] m e = absurd cc
mark_fits (c ∷ digits) m e = go (c == 58) e
  where
    go : (t : Bool) → cond t (or_defect BadMark (mark_of digits)) (Err BadMark) ≡ Ok m → IsMark m
    go true e = (mark_is digits m (or_defect_is BadMark (mark_of digits) m e)).1
    go false e = absurd cc

pub mark_read : (digits : Bytes) (m : ℕ) → IsNumeral digits m → IsMark m → mark_of digits ≡ Some m
unfolding mark_of
mark_read digits m h is =
    some_then (number_within MAX_MARK digits) (λ m. as_mark m) m (Some m) (within_read MAX_MARK digits m h is.1)
    (cond-true (nat_le 1 m && nat_le m MAX_MARK) (Some m) None (and_from (nat_le 1 m) (nat_le m MAX_MARK) (le-leb 1 m is.0) (le-leb m MAX_MARK is.1)))
