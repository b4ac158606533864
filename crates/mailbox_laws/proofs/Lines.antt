-- Lines of a box, as they are written and read.
use Rattle.std.proofs.Common.{◌≡◌, inl, inr, ℕ, Bool, true, false, cond, not, List, [], ◌∷◌, ◌++◌, map, refl, sym, ap, ◌∙◌, append_assoc, eqb-true}
use Rattle.std.specs.Prelude.{◌==◌, ◌&&◌, flat_map}
use Rattle.std.specs.List.{AllByRecursion}
use Rattle.std.proofs.lemmas.Bool.{and_parts, and_from, cases_Bool, cond-true, cond-false, not-true}
use Rattle.std.proofs.lemmas.Slice.Eq.{bytes_eq-Decides}
use Rattle.plain_model.specs.Parts.{has_no_lf}
use Rattle.plain_model.specs.Paths.{Bytes}
use Rattle.plain_model.specs.Text.{line}
use Rattle.mailbox_laws.specs.Boxes.{comment_in, in_first, is_rule, is_ruled, joined, lines_in, quoted, rule, unquoted}

-- ---- lines

abbrev pub IsPlain : Bytes → Type 0
IsPlain l = has_no_lf l ≡ true

-- a line without LF, and the LF that ends it
pub first_read : (l rest : Bytes) → IsPlain l → lines_in (l ++ 10 ∷ rest) ≡ l ∷ lines_in rest
first_read [] rest h = refl
first_read (b ∷ bs) rest h =
    let parts = and_parts (not (b == 10)) (has_no_lf bs) h in
    cond-false (b == 10) ([] ∷ lines_in (bs ++ 10 ∷ rest)) (in_first b (lines_in (bs ++ 10 ∷ rest))) (not-true (b == 10) parts.0)
    ∙ ap (in_first b) (first_read bs rest parts.1)

-- lines that are written are read again
pub lines_read : (ls : List Bytes) (rest : Bytes) → AllByRecursion IsPlain ls → lines_in (flat_map line ls ++ rest) ≡ ls ++ lines_in rest
lines_read [] rest h = refl
lines_read (l ∷ ls) rest h =
    ap lines_in (append_assoc (line l) (flat_map line ls) rest ∙ append_assoc l (10 ∷ []) (flat_map line ls ++ rest))
    ∙ first_read l (flat_map line ls ++ rest) h.0
    ∙ ap (λ (more : List Bytes). l ∷ more) (lines_read ls rest h.1)

plain_first : (b : ℕ) (ls : List Bytes) → (b == 10) ≡ false → AllByRecursion IsPlain ls → AllByRecursion IsPlain (in_first b ls)
plain_first b [] other h = (and_from (not (b == 10)) true (ap not other) refl, tt)
plain_first b (l ∷ ls) other h = (and_from (not (b == 10)) (has_no_lf l) (ap not other) h.0, h.1)

-- no line has an LF
pub lines_plain : (bs : Bytes) → AllByRecursion IsPlain (lines_in bs)
lines_plain [] = tt
lines_plain (b ∷ bs) = go (b == 10) refl (lines_plain bs)
  where
    go : (t : Bool) → (b == 10) ≡ t → AllByRecursion IsPlain (lines_in bs) → AllByRecursion IsPlain (cond t ([] ∷ lines_in bs) (in_first b (lines_in bs)))
    go true e h = (refl, h)
    go false e h = plain_first b (lines_in bs) e h

-- ---- comments

joined_more : (b : ℕ) (ls : List Bytes) (l : Bytes) → joined (in_first b (l ∷ ls)) ≡ b ∷ joined (l ∷ ls)
joined_more b [] l = refl
joined_more b (next ∷ ls) l = refl

-- a text with an LF after it has a line
some_line : (c : Bytes) → (l : Bytes) × (ls : List Bytes) × (lines_in (line c) ≡ l ∷ ls)
some_line [] = ([], [], refl)
some_line (b ∷ bs) =
    let rest = some_line bs in
    elim (cases_Bool (b == 10)) [
      | inl it ↦ ([], lines_in (line bs), cond-true (b == 10) ([] ∷ lines_in (line bs)) (in_first b (lines_in (line bs))) it)
      | inr no_it ↦ (
        b ∷ rest.0,
        rest.1,
        cond-false (b == 10) ([] ∷ lines_in (line bs)) (in_first b (lines_in (line bs))) no_it ∙ ap (in_first b) rest.2,
      )
    ]

-- the lines of a text and one LF, put together again, are the text
pub joined_lines : (c : Bytes) → joined (lines_in (line c)) ≡ c
joined_lines [] = refl
joined_lines (b ∷ bs) = go (b == 10) refl (joined_lines bs)
  where
    rest : (l : Bytes) × (ls : List Bytes) × (lines_in (line bs) ≡ l ∷ ls)
    rest = some_line bs

    go : (t : Bool) → (b == 10) ≡ t → joined (lines_in (line bs)) ≡ bs → joined (cond t ([] ∷ lines_in (line bs)) (in_first b (lines_in (line bs)))) ≡ b ∷ bs
    go true e h =
        ap (λ (ls : List Bytes). joined ([] ∷ ls)) rest.2
        ∙ ap (λ (x : ℕ). x ∷ joined (rest.0 ∷ rest.1)) (sym (eqb-true b 10 e))
        ∙ ap (λ (ls : List Bytes). b ∷ joined ls) (sym rest.2) ∙ ap (λ (t : Bytes). b ∷ t) h
    go false e h =
        ap (λ (ls : List Bytes). joined (in_first b ls)) rest.2
        ∙ joined_more b rest.1 rest.0
        ∙ ap (λ (ls : List Bytes). b ∷ joined ls) (sym rest.2) ∙ ap (λ (t : Bytes). b ∷ t) h

-- ---- lines of hyphens

pub rule_is : is_rule rule ≡ true
rule_is = (bytes_eq-Decides rule rule).1 refl

pub plain_rule : IsPlain rule
unfolding rule
plain_rule = refl

pub rule_begins : (bs : Bytes) → is_rule (62 ∷ bs) ≡ false
unfolding rule
rule_begins bs = refl

-- what is no line with hyphens after any number of `>` is none without
rule_ruled : (l : Bytes) → is_ruled l ≡ false → is_rule l ≡ false
rule_ruled [] h = h
rule_ruled (b ∷ bs) h = elim (cases_Bool (b == 62)) [
  | inl it ↦ ap (λ c. is_rule (c ∷ bs)) (eqb-true b 62 it) ∙ rule_begins bs
  | inr no_it ↦ sym (cond-false (b == 62) (is_ruled bs) (is_rule (b ∷ bs)) no_it) ∙ h
]

-- a line of a comment is no line of hyphens once it is written
pub quoted_is_no_rule : (l : Bytes) → is_rule (quoted l) ≡ false
quoted_is_no_rule l = go (is_ruled l) refl
  where
    go : (t : Bool) → is_ruled l ≡ t → is_rule (cond t (62 ∷ l) l) ≡ false
    go true e = rule_begins l
    go false e = rule_ruled l e

pub quoted_plain : (l : Bytes) → IsPlain l → IsPlain (quoted l)
quoted_plain l h = go (is_ruled l)
  where
    go : (t : Bool) → IsPlain (cond t (62 ∷ l) l)
    go true = h
    go false = h

unruled : (l : Bytes) → is_ruled l ≡ false → unquoted l ≡ l
unruled [] h = refl
unruled (b ∷ bs) h = cond-false ((b == 62) && is_ruled bs) bs (b ∷ bs) (go (b == 62) h)
  where
    go : (t : Bool) → cond t (is_ruled bs) (is_rule (b ∷ bs)) ≡ false → (t && is_ruled bs) ≡ false
    go true h = h
    go false h = refl

-- what is written of a line of a comment is read again
pub unquoted_again : (l : Bytes) → unquoted (quoted l) ≡ l
unquoted_again l = go (is_ruled l) refl
  where
    go : (t : Bool) → is_ruled l ≡ t → unquoted (cond t (62 ∷ l) l) ≡ l
    go true e = cond-true (is_ruled l) l (62 ∷ l) e
    go false e = unruled l e

all_unquoted : (ls : List Bytes) → map unquoted (map quoted ls) ≡ ls
all_unquoted [] = refl
all_unquoted (l ∷ ls) = λ i. unquoted_again l i ∷ all_unquoted ls i

-- a comment that is written as a body is read again
pub comment_again : (c : Bytes) → comment_in (map quoted (lines_in (line c))) ≡ c
comment_again c = ap joined (all_unquoted (lines_in (line c))) ∙ joined_lines c

pub all_quoted_plain : (ls : List Bytes) → AllByRecursion IsPlain ls → AllByRecursion IsPlain (map quoted ls)
all_quoted_plain [] h = tt
all_quoted_plain (l ∷ ls) h = (quoted_plain l h.0, all_quoted_plain ls h.1)

pub no_rules : (ls : List Bytes) → AllByRecursion (λ l. is_rule l ≡ false) (map quoted ls)
no_rules [] = tt
no_rules (l ∷ ls) = (quoted_is_no_rule l, no_rules ls)
