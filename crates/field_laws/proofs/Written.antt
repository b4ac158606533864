-- Each field that is written is spelled as it is read, whatever follows.
use Rattle.std.proofs.Common.{◌≡◌, inl, inr, ℕ, ◌+◌, ◌-◌, ◌*◌, ◌/◌, ◌%◌, ◌^◌, ◌≤◌, ◌<◌, Bool, true, false, cond, not, [], ◌∷◌, ◌++◌, length, refl, sym, ap, ◌∙◌, arith, append_assoc, length-append, leb-true, lt-ltb, ne_eqb, codes}
use Rattle.std.specs.Prelude.{◌==◌, ◌&&◌, nat_le, nat_lt, decimal, IsTrue}
use Rattle.std.specs.List.{list_all}
use Rattle.std.proofs.lemmas.Bool.{and_parts, and_from, cond-true}
use Rattle.std.proofs.lemmas.Fmt.{decimal_by_steps_wide}
use Rattle.std.proofs.lemmas.List.Folds.{list_all-append}
use Rattle.plain_model.specs.declared.limit.TheConstants.{MAX_NAME_BYTES, MAX_SECONDS}
use Rattle.plain_model.specs.declared.person.Signed.{Signed}
use Rattle.plain_model.specs.Paths.{Bytes}
use Rattle.plain_model.specs.Marks.{IsMark}
use Rattle.plain_model.specs.Names.{is_name_byte, is_name}
use Rattle.plain_model.specs.Numbers.{IsNumeral, is_digit}
use Rattle.plain_model.specs.People.{is_clean, IsNamePart, IsZone, IsSigned}
use Rattle.plain_model.specs.Parts.{has_no_lf, IsLine}
use Rattle.plain_model.specs.Text.{line, zone, person}
use Rattle.plain_model.proofs.Numbers.{value_push}
use Rattle.field_laws.proofs.Decimals.{digit}
use Rattle.field_laws.proofs.Persons.{all_pass}

-- ---- numbers

-- the digits that are written of a number say it
pub numeral_written : (n : ℕ) → n < 10 ^ 64 → IsNumeral (decimal n) n
numeral_written = decimal_by_steps_wide (λ n ds. IsNumeral ds n)
    (λ n h. record { some = omega arith; all = and_from (is_digit (48 + n)) true (digit n h) refl; value = omega arith })
    (λ n ds h p. record {
      some = omega (arith, length-append ds ((48 + n % 10) ∷ []));
      all = list_all-append is_digit ds ((48 + n % 10) ∷ []) ∙ and_from (list_all is_digit ds) (list_all is_digit ((48 + n % 10) ∷ [])) p.all (and_from (is_digit (48 + n % 10)) true (digit (n % 10) (omega arith)) refl);
      value = value_push 0 ds (48 + n % 10) ∙ ap (λ v. 10 * v + (48 + n % 10 - 48)) p.value ∙ (omega arith);
    })

-- ---- bytes without LF

-- two parts without LF
pub plain_join : (a b : Bytes) → has_no_lf a ≡ true → has_no_lf b ≡ true → has_no_lf (a ++ b) ≡ true
plain_join a b p q = list_all-append (λ c. not (c == 10)) a b ∙ and_from (has_no_lf a) (has_no_lf b) p q

-- the parts of what has no LF
pub plain_parts : (a b : Bytes) → has_no_lf (a ++ b) ≡ true → (has_no_lf a ≡ true) × (has_no_lf b ≡ true)
plain_parts a b h = and_parts (has_no_lf a) (has_no_lf b) (sym (list_all-append (λ c. not (c == 10)) a b) ∙ h)

-- a greater byte is no LF
pub greater_plain : (b : ℕ) → 11 ≤ b → not (b == 10) ≡ true
greater_plain b h = ap not (ne_eqb b 10 (λ e. absurd (omega arith)))

-- digits have no LF
pub plain_digits : (ds : Bytes) → list_all is_digit ds ≡ true → has_no_lf ds ≡ true
plain_digits ds h = all_pass is_digit (λ b. not (b == 10)) (λ b d. greater_plain b (let low = leb-true 48 b (and_parts (nat_le 48 b) (nat_le b 57) d).0 in omega arith)) ds h

-- the digits that are written have no LF
plain_number : (n : ℕ) → n < 10 ^ 64 → has_no_lf (decimal n) ≡ true
plain_number n h = plain_digits (decimal n) (numeral_written n h).all

-- names of branches have no LF
pub plain_name : (name : Bytes) → IsTrue (is_name name) → has_no_lf name ≡ true
plain_name name h =
    let bytes = (and_parts (nat_le 1 (length name) && nat_le (length name) MAX_NAME_BYTES) (list_all is_name_byte name) h).1 in
    all_pass is_name_byte (λ b. not (b == 10)) (λ b d. greater_plain b (let low = leb-true 33 b (and_parts (nat_le 33 b) (not (b == 127)) d).0 in omega arith)) name bytes

-- ---- lines

-- a line that is written is that line, and what follows is the rest
pub line_written : (bytes rest : Bytes) → has_no_lf bytes ≡ true → IsLine (line bytes ++ rest) bytes rest
line_written bytes rest h = (h, inl (append_assoc bytes (10 ∷ []) rest))

-- the digits of a mark have no LF
pub plain_mark : (mark : ℕ) → IsMark mark → has_no_lf (decimal mark) ≡ true
plain_mark mark h = plain_number mark (omega arith)

-- the digits of a mark say it
pub mark_numeral : (mark : ℕ) → IsMark mark → IsNumeral (decimal mark) mark
mark_numeral mark h = numeral_written mark (omega arith)

-- ---- people

-- who and when, as a line can say it
pub record SignedFits (who : Signed) : Type 0 where
  pub clean_name : is_clean who.person.name ≡ true
  pub clean_email : is_clean who.person.email ≡ true
  pub plain_name : has_no_lf who.person.name ≡ true
  pub plain_email : has_no_lf who.person.email ≡ true
  pub in_time : who.when.seconds ≤ MAX_SECONDS
  pub four_digits : who.when.offset ≤ 9999

-- the text of a zone
abbrev pub zone_text : Bool → ℕ → Bytes
zone_text minus offset = cond minus (codes "-") (codes "+") ++ zone offset

-- four digits that are written say the number
zone_digits : (n : ℕ) → n ≤ 9999 → IsNumeral (zone n) n
zone_digits n h = record {
  some = omega arith;
  all = and_from (is_digit (48 + n / 1000)) (list_all is_digit ((48 + n / 100 % 10) ∷ (48 + n / 10 % 10) ∷ (48 + n % 10) ∷ [])) (digit (n / 1000) (omega arith))
      (and_from (is_digit (48 + n / 100 % 10)) (list_all is_digit ((48 + n / 10 % 10) ∷ (48 + n % 10) ∷ [])) (digit (n / 100 % 10) (omega arith))
      (and_from (is_digit (48 + n / 10 % 10)) (list_all is_digit ((48 + n % 10) ∷ [])) (digit (n / 10 % 10) (omega arith))
      (and_from (is_digit (48 + n % 10)) true (digit (n % 10) (omega arith)) refl)));
  value = omega arith;
}

-- a sign and four digits
pub zone_written : (minus : Bool) (offset : ℕ) → offset ≤ 9999 → IsZone (zone_text minus offset) minus offset
zone_written true offset h = record { sign = 45; digits = zone offset; is = refl; signed = inr (refl, refl); four = refl; numeral = zone_digits offset h }
zone_written false offset h = record { sign = 43; digits = zone offset; is = refl; signed = inl (refl, refl); four = refl; numeral = zone_digits offset h }

-- what is before an email
name_part : Bytes → Bytes
name_part name = name ++ cond (nat_lt 0 (length name)) (codes " ") []

-- the name and the space after it, if there is a name
part_written : (name : Bytes) → IsNamePart (name_part name) name
unfolding name_part
part_written [] = inl (refl, refl)
part_written (b ∷ bs) = inr (ap (λ (s : Bytes). (b ∷ bs) ++ s) (cond-true (nat_lt 0 (length (b ∷ bs))) (codes " ") [] (lt-ltb 0 (length (b ∷ bs)) (omega arith))))

-- the parts of such a text, grouped from the end
person_grouped : (a b c d e f : Bytes) → a ++ b ++ 60 ∷ [] ++ c ++ 62 ∷ 32 ∷ [] ++ d ++ 32 ∷ [] ++ e ++ f ≡ (a ++ b) ++ 60 ∷ (c ++ 62 ∷ 32 ∷ (d ++ 32 ∷ (e ++ f)))
person_grouped a b c d e f = simp append_assoc

-- the text of who and when, its name and what follows it apart
person_is : (who : Signed) → person who ≡ name_part who.person.name ++ 60 ∷ (who.person.email ++ 62 ∷ 32 ∷ (decimal who.when.seconds ++ 32 ∷ zone_text who.when.minus who.when.offset))
unfolding name_part
person_is who = person_grouped who.person.name (cond (nat_lt 0 (length who.person.name)) (codes " ") []) who.person.email (decimal who.when.seconds) (cond who.when.minus (codes "-") (codes "+")) (zone who.when.offset)

-- the text of who and when spells them
pub person_written : (who : Signed) → SignedFits who → IsSigned (person who) who
person_written who h = record {
  part = name_part who.person.name;
  digits = decimal who.when.seconds;
  zone = zone_text who.when.minus who.when.offset;
  is = person_is who;
  name = part_written who.person.name;
  clean_name = h.clean_name;
  clean_email = h.clean_email;
  seconds = numeral_written who.when.seconds (let time = h.in_time in omega arith);
  in_time = h.in_time;
  offset = zone_written who.when.minus who.when.offset h.four_digits;
}
