-- Texts that are written as words, and numbers as texts.
use Rattle.std.proofs.Common.{◌≡◌, ℕ, suc, ℤ, pos, negsuc, ◌≤◌, ◌<◌, ◌^◌, ◌+◌, ◌/◌, ◌%◌, Bool, true, false, cond, not, List, [], ◌∷◌, ◌++◌, length, map, Some, None, Ok, refl, ap, sym, subst, inl, inr, ◌∙◌, arith, le-leb, ne_eqb}
use Rattle.std.specs.Prelude.{◌==◌, ◌&&◌, ◌⊎◌, nat_le}
use Rattle.std.proofs.lemmas.Bool.{and_parts, cond-false, cond-true, not-true}
use Rattle.std.proofs.lemmas.Fmt.{length-decimal-le_wide}
use Rattle.plain_model.specs.Numbers.{decimal_of}
use Rattle.plain_model.specs.Parts.{number_within}
use Rattle.plain_model.specs.Paths.{Bytes}
use Rattle.field_laws.proofs.Decimals.{decimal_of_by_steps, decimal_of_is, numeral_of}
use Rattle.plain_model.specs.People
use Rattle.field_laws.proofs.Numerals.{within_read}
use Rattle.field_laws.proofs.Written.{zone_written}
use Rattle.event_fields.specs.Shifts.{IsShift, IsZone, PlainZone, directed, shift_in, shift_text, sign_text, zone_in, zone_text}
use Rattle.event_fields.specs.declared.shift.TheConstants.{MAX_SHIFT, MAX_SHIFT_DIGITS}
use Rattle.script_lines.specs.Redirections.{begins_with_sign}
use Rattle.script_lines.specs.Texts.{name_in, text_before, texts_in, whole_in}
use Rattle.script_lines.specs.Written.{is_whole}
use Rattle.script_lines.specs.declared.word.Word.{Word}
use Rattle.script_lines.specs.declared.word.Word.TheVariants.{Plain, Quoted}
use Rattle.script_reader.specs.Numbers.{at_least, index_in, leads_with_zero, number_between, seconds_in}
use Rattle.script_reader.specs.Written.{word_for}
use Rattle.script_reader.specs.declared.number.TheConstants.{MAX_COALESCE_SECONDS, MAX_INDEX, MAX_INDEX_DIGITS, MAX_SECOND_DIGITS}

-- ---- texts

pub whole_again : (text : Bytes) → whole_in (word_for text) ≡ Some text
whole_again text = go (is_whole (Plain text) && not (begins_with_sign text))
  where
    go : (b : Bool) → whole_in (cond b (Plain text) (Quoted text)) ≡ Some text
    go true = refl
    go false = refl

pub name_again : (text : Bytes) → name_in (word_for text) ≡ Some text
name_again text = go (is_whole (Plain text) && not (begins_with_sign text)) refl
  where
    go : (b : Bool) → (is_whole (Plain text) && not (begins_with_sign text)) ≡ b → name_in (cond b (Plain text) (Quoted text)) ≡ Some text
    go true is = ap (λ sign. cond sign None (Some text)) (not-true (begins_with_sign text) (and_parts (is_whole (Plain text)) (not (begins_with_sign text)) is).1)
    go false is = refl

pub before_again : (words : List Word) (text : Bytes) → text_before words (word_for text) ≡ Some text
before_again [] text = name_again text
before_again (next ∷ words) text = whole_again text

pub texts_again : (texts : List Bytes) → texts_in (map word_for texts) ≡ Ok texts
texts_again [] = refl
texts_again (text ∷ texts) = rw (before_again (map word_for texts) text, texts_again texts) refl

-- ---- numbers

few_digits : (most n : ℕ) → 0 < most → n < 10 ^ most → n < 10 ^ 64 → length (decimal_of n) ≤ most
few_digits most n some low within = subst (λ (ds : Bytes). length ds ≤ most) (sym (decimal_of_is n within)) (length-decimal-le_wide most n some low within)

pub index_again : (n : ℕ) → n ≤ MAX_INDEX → index_in (decimal_of n) ≡ Some n
index_again n h =
    cond-true (nat_le (length (decimal_of n)) MAX_INDEX_DIGITS) (number_within MAX_INDEX (decimal_of n)) None
    (le-leb (length (decimal_of n)) MAX_INDEX_DIGITS (few_digits 19 n (omega arith) (omega (arith, h)) (omega (arith, h))))
    ∙ within_read MAX_INDEX (decimal_of n) n (numeral_of n) h

pub seconds_again : (n : ℕ) → n ≤ MAX_COALESCE_SECONDS → seconds_in (decimal_of n) ≡ Some n
seconds_again n h =
    cond-true (nat_le (length (decimal_of n)) MAX_SECOND_DIGITS) (number_within MAX_COALESCE_SECONDS (decimal_of n)) None
    (le-leb (length (decimal_of n)) MAX_SECOND_DIGITS (few_digits 9 n (omega arith) (omega (arith, h)) (omega (arith, h))))
    ∙ within_read MAX_COALESCE_SECONDS (decimal_of n) n (numeral_of n) h

shift_by : (earlier : Bool) (n : ℕ) → n ≤ MAX_SHIFT → shift_in (sign_text earlier ++ decimal_of n) ≡ Some (directed earlier n)
shift_by earlier n h = go earlier
  where
    few : nat_le (length (decimal_of n)) MAX_SHIFT_DIGITS ≡ true
    few = le-leb (length (decimal_of n)) MAX_SHIFT_DIGITS (few_digits 12 n (omega arith) (omega (arith, h)) (omega (arith, h)))

    read : number_within MAX_SHIFT (decimal_of n) ≡ Some n
    read = within_read MAX_SHIFT (decimal_of n) n (numeral_of n) h

    go : (earlier : Bool) → shift_in (sign_text earlier ++ decimal_of n) ≡ Some (directed earlier n)
    go true = rw (few, read) refl
    go false = rw (few, read) refl

pub shift_again : (seconds : ℤ) → IsShift seconds → shift_in (shift_text seconds) ≡ Some seconds
shift_again (pos later) h = shift_by false later h
shift_again (negsuc earlier) h = shift_by true (suc earlier) h

abbrev zone_with : Bool → ℕ → PlainZone
zone_with minus offset = record { minus = minus; offset = offset }

-- a text that spells a zone is read as it
zone_spelled : (text : Bytes) (minus : Bool) (offset : ℕ) → offset ≤ 9999 → People.IsZone text minus offset → zone_in text ≡ Some (zone_with minus offset)
zone_spelled text minus offset h z = ap zone_in z.is ∙ by_sign z.sign z.signed
  where
    four : (length z.digits == 4) ≡ true
    four = rw z.four refl

    by_sign : (sign : ℕ) → ((sign ≡ 43) × (minus ≡ false)) ⊎ ((sign ≡ 45) × (minus ≡ true)) → zone_in (sign ∷ z.digits) ≡ Some (zone_with minus offset)
    by_sign sign (inl (plus, is)) = rw (plus, is, four, within_read 9999 z.digits offset z.numeral h) refl
    by_sign sign (inr (less, is)) = rw (less, is, four, within_read 9999 z.digits offset z.numeral h) refl

pub zone_again : (at : PlainZone) → IsZone at → zone_in (zone_text at) ≡ Some at
zone_again at h = zone_spelled (zone_text at) at.minus at.offset h (zone_written at.minus at.offset h)

-- digits of a number, of which the first is no zero where there are more
record AreOwn (n : ℕ) (digits : Bytes) : Type 0 where
  first : ℕ
  rest : Bytes
  are : digits ≡ first ∷ rest
  some : 1 ≤ n → (first == 48) ≡ false
  plain : leads_with_zero digits ≡ false

own_digits : (n : ℕ) → AreOwn n (decimal_of n)
own_digits = decimal_of_by_steps AreOwn one more
  where
    one : (n : ℕ) → n < 10 → AreOwn n ((48 + n) ∷ [])
    one n h = record { first = 48 + n; rest = []; are = refl; some = (λ h. ne_eqb (48 + n) 48 (λ e. absurd (omega (arith, h, e)))); plain = refl }

    still : (first last : ℕ) (rest : Bytes) → (first == 48) ≡ false → leads_with_zero (first ∷ (rest ++ last ∷ [])) ≡ false
    still first last [] h = h
    still first last (b ∷ rest) h = h

    more : (n : ℕ) (ds : Bytes) → 10 ≤ n → AreOwn (n / 10) ds → AreOwn n (ds ++ (48 + n % 10) ∷ [])
    more n ds h own =
        let first_one = own.some (omega (arith, h)) in record {
          first = own.first;
          rest = own.rest ++ (48 + n % 10) ∷ [];
          are = ap (λ (ds : Bytes). ds ++ (48 + n % 10) ∷ []) own.are;
          some = (λ some. first_one);
          plain = ap (λ (ds : Bytes). leads_with_zero (ds ++ (48 + n % 10) ∷ [])) own.are ∙ still own.first (48 + n % 10) own.rest first_one;
        }

pub number_again : (least most n : ℕ) → least ≤ n → n ≤ most → number_between least most (decimal_of n) ≡ Some n
number_again least most n low high =
    cond-false (leads_with_zero (decimal_of n)) None (at_least least (number_within most (decimal_of n))) (own_digits n).plain
    ∙ ap (at_least least) (within_read most (decimal_of n) n (numeral_of n) high) ∙ cond-true (nat_le least n) (Some n) None (le-leb least n low)
