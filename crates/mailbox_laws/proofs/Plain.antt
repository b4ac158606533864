-- No value of a header that is written has an LF.
use Rattle.std.proofs.Common.{◌≡◌, ℕ, zero, suc, ◌+◌, ◌/◌, ◌%◌, Bool, true, false, cond, not, List, [], ◌∷◌, ◌++◌, length, take, refl, ap, arith, codes, eq-eqb}
use Rattle.std.specs.Prelude.{◌==◌, decimal, flat_map, nat_lt}
use Rattle.std.specs.Fmt.{digits, digits_onto, digit_glyph}
use Rattle.std.specs.List.{list_all}
use Rattle.std.proofs.lemmas.Bool.{and_from}
use Rattle.plain_model.specs.declared.person.Person.{Person}
use Rattle.plain_model.specs.declared.person.When.{When}
use Rattle.plain_model.specs.Parts.{begins, has_no_lf}
use Rattle.plain_model.specs.Paths.{Bytes}
use Rattle.plain_model.specs.Text.{marked, zone}
use Rattle.listing.specs.Listings.{first_line}
use Rattle.field_laws.proofs.Written.{greater_plain, plain_join}
use Rattle.mailbox_laws.specs.Written.{check_text, identity_text, marks_text, moment_text}
use Rattle.mailbox_laws.proofs.Forms.{take_plain}
use Rattle.mailbox_laws.proofs.Lines.{IsPlain}

-- ---- numbers, of whatever size

glyph_plain : (d : ℕ) → not (digit_glyph false d == 10) ≡ true
glyph_plain d = go (nat_lt d 10)
  where
    go : (t : Bool) → not (cond t (48 + d) (87 + d) == 10) ≡ true
    go true = greater_plain (48 + d) (omega arith)
    go false = greater_plain (87 + d) (omega arith)

glyph_more : (d : ℕ) (acc : Bytes) → IsPlain acc → IsPlain (digit_glyph false d ∷ acc)
glyph_more d acc h = and_from (not (digit_glyph false d == 10)) (has_no_lf acc) (glyph_plain d) h

onto_plain : (k n : ℕ) (acc : Bytes) → IsPlain acc → IsPlain (digits_onto k 10 false n acc)
onto_plain zero n acc h = h
onto_plain (suc k) n acc h =
    let more = digit_glyph false (n % 10) ∷ acc in
    let longer = glyph_more (n % 10) acc h in
    go (n / 10 == 0) longer (onto_plain k (n / 10) more longer)
  where
    go : (t : Bool) → IsPlain (digit_glyph false (n % 10) ∷ acc) → IsPlain (digits_onto k 10 false (n / 10) (digit_glyph false (n % 10) ∷ acc))
        → IsPlain (cond t (digit_glyph false (n % 10) ∷ acc) (digits_onto k 10 false (n / 10) (digit_glyph false (n % 10) ∷ acc)))
    go true this rest = this
    go false this rest = rest

pub plain_decimal : (n : ℕ) → IsPlain (decimal n)
unfolding digits
plain_decimal n = onto_plain 64 n [] refl

pub plain_marked : (m : ℕ) → IsPlain (marked m)
plain_marked m = plain_decimal m

plain_more : (ms : List ℕ) → IsPlain (flat_map (λ n. codes " " ++ marked n) ms)
plain_more [] = refl
plain_more (m ∷ ms) = plain_join (codes " " ++ marked m) (flat_map (λ n. codes " " ++ marked n) ms) (plain_marked m) (plain_more ms)

pub plain_marks : (ms : List ℕ) → IsPlain (marks_text ms)
plain_marks [] = refl
plain_marks (m ∷ ms) = plain_join (marked m) (flat_map (λ n. codes " " ++ marked n) ms) (plain_marked m) (plain_more ms)

-- ---- people and dates

pub plain_identity : (p : Person) → IsPlain p.name → IsPlain p.email → IsPlain (identity_text p)
plain_identity p name email =
    let space = cond (nat_lt 0 (length p.name)) (codes " ") [] in
    plain_join (p.name ++ space ++ codes "<" ++ p.email) (codes ">")
    (plain_join (p.name ++ space ++ codes "<") p.email (plain_join (p.name ++ space) (codes "<") (plain_join p.name space name (go (nat_lt 0 (length p.name)))) refl) email) refl
  where
    go : (t : Bool) → IsPlain (cond t (codes " ") [])
    go true = refl
    go false = refl

plain_zone : (n : ℕ) → IsPlain (zone n)
plain_zone n =
    and_from (not (48 + n / 1000 == 10)) (list_all (λ b. not (b == 10)) ((48 + n / 100 % 10) ∷ (48 + n / 10 % 10) ∷ (48 + n % 10) ∷ [])) (greater_plain (48 + n / 1000) (omega arith))
    (and_from (not (48 + n / 100 % 10 == 10)) (list_all (λ b. not (b == 10)) ((48 + n / 10 % 10) ∷ (48 + n % 10) ∷ [])) (greater_plain (48 + n / 100 % 10) (omega arith))
    (and_from (not (48 + n / 10 % 10 == 10)) (list_all (λ b. not (b == 10)) ((48 + n % 10) ∷ [])) (greater_plain (48 + n / 10 % 10) (omega arith))
    (and_from (not (48 + n % 10 == 10)) true (greater_plain (48 + n % 10) (omega arith)) refl)))

pub plain_moment : (w : When) → IsPlain (moment_text w)
plain_moment w =
    let sign = cond w.minus (codes "-") (codes "+") in
    plain_join (decimal w.seconds ++ codes " " ++ sign) (zone w.offset)
    (plain_join (decimal w.seconds ++ codes " ") sign (plain_join (decimal w.seconds) (codes " ") (plain_decimal w.seconds) refl) (go w.minus)) (plain_zone w.offset)
  where
    go : (t : Bool) → IsPlain (cond t (codes "-") (codes "+"))
    go true = refl
    go false = refl

-- ---- comments

first_plain : (c : Bytes) → IsPlain (first_line c)
first_plain [] = refl
first_plain (b ∷ bs) = go (b == 10) refl (first_plain bs)
  where
    go : (t : Bool) → (b == 10) ≡ t → IsPlain (first_line bs) → IsPlain (cond t [] (b ∷ first_line bs))
    go true e h = refl
    go false e h = and_from (not (b == 10)) (has_no_lf (first_line bs)) (ap not e) h

pub plain_check : (c : Bytes) → IsPlain (check_text c)
plain_check c = take_plain 64 (first_line c) (first_plain c)

begins_first : (n : ℕ) (c : Bytes) → begins (take n (first_line c)) c ≡ true
begins_first zero c = refl
begins_first (suc n) [] = refl
begins_first (suc n) (b ∷ bs) = go (b == 10) (begins_first n bs)
  where
    go : (t : Bool) → begins (take n (first_line bs)) bs ≡ true → begins (take (suc n) (cond t [] (b ∷ first_line bs))) (b ∷ bs) ≡ true
    go true h = refl
    go false h = and_from (b == b) (begins (take n (first_line bs)) bs) (eq-eqb b b refl) h

-- a comment begins with its check
pub check_passes : (c : Bytes) → begins (check_text c) c ≡ true
check_passes c = begins_first 64 c
