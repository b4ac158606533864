-- Blocks of data: counted ones, and lines up to a delimiter.
use Rattle.std.proofs.Common.{◌≡◌, ℕ, ◌≤◌, ◌<◌, Bool, true, false, cond, not, [], ◌∷◌, ◌++◌, length, drop, Option, Some, None, Result, Ok, Err, refl, sym, ap, ◌∙◌, arith, append_assoc, append-nil, eqb-true, codes}
use Rattle.std.specs.Prelude.{◌==◌, ◌&&◌, is_some, nat_le, bytes_eq}
use Rattle.std.proofs.lemmas.Bool.{and_parts, cond-false, not-true}
use Rattle.std.proofs.lemmas.Bool.Decides.{nat_tests}
use Rattle.std.proofs.lemmas.Slice.Eq.{bytes_eq-Decides}
use Rattle.std.proofs.lemmas.Option.{none-some, cond_some}
use Rattle.plain_model.specs.declared.fault.Why.{Why}
use Rattle.plain_model.specs.declared.fault.Why.TheVariants.{BadData}
use Rattle.plain_model.specs.Paths.{Bytes}
use Rattle.plain_model.specs.Parts.{has_no_lf, number_of, number_within, at_most}
use Rattle.plain_model.specs.Parts.{◌>>=◌ as ◌then_part◌}
use Rattle.plain_model.specs.Fields.{◌>>=◌, after_space, data_text, delimited, delimiter_in, extent_by, extent_in, first_word, or_defect}
use Rattle.plain_model.specs.Fields.Extent.{Counted, Delimited}

-- ---- how far a line says that a block goes

pub no_text : (line : Bytes) → None ≡ data_text line → extent_in line ≡ Err BadData
unfolding extent_in
no_text line e = ap (λ o. or_defect BadData o >>= λ text. extent_by text (number_of text)) (sym e)

module _ (line text : Bytes) (there : Some text ≡ data_text line) where
  by_number : extent_in line ≡ extent_by text (number_of text)
  unfolding extent_in
  by_number = ap (λ o. or_defect BadData o >>= λ t. extent_by t (number_of t)) (sym there)

  pub said_count : (most n : ℕ) → number_within most text ≡ Some n → extent_in line ≡ Ok (Counted n)
  unfolding number_within
  said_count most n e = by_number ∙ go (number_of text) e
    where
      go : (o : Option ℕ) → (o then_part λ x. at_most most x) ≡ Some n → extent_by text o ≡ Ok (Counted n)
      go None h = absurd (none-some n h)
      go (Some x) h = ap (λ k. Ok (Counted k)) (cond_some (nat_le x most) x n h).1

  pub said_more : (most : ℕ) → is_some (number_of text) ≡ true → number_within most text ≡ None → (n : ℕ) × (most < n) × (extent_in line ≡ Ok (Counted n))
  unfolding number_within
  said_more most some e = go (number_of text) refl some e
    where
      go : (o : Option ℕ) → number_of text ≡ o → is_some o ≡ true → (o then_part λ x. at_most most x) ≡ None → (n : ℕ) × (most < n) × (extent_in line ≡ Ok (Counted n))
      go None is h k = absurd cc
      go (Some n) is h k = (n, above (nat_le n most) refl k, by_number ∙ ap (extent_by text) is)
        where
          above : (t : Bool) → nat_le n most ≡ t → cond t (Some n) None ≡ None → most < n
          above true f e = absurd (none-some n (sym e))
          above false f e = grind (arith, nat_tests)

  -- what is no number says a delimiter
  pub said_delimiter : (r : Result Bytes Why) → is_some (number_of text) ≡ false → r ≡ delimiter_in text → extent_in line ≡ (r >>= λ d. Ok (Delimited d))
  said_delimiter r none is = by_number ∙ go (number_of text) none
    where
      go : (o : Option ℕ) → is_some o ≡ false → extent_by text o ≡ (r >>= λ d. Ok (Delimited d))
      go None h = ap (λ (d : Result Bytes Why). d >>= λ x. Ok (Delimited x)) (sym is)
      go (Some n) h = absurd cc

-- ---- where a line has its delimiter

-- a line is its first word, a space, and what is after it
line_split : (line text : Bytes) → after_space line ≡ Some text → line ≡ first_word line ++ 32 ∷ text
line_split [] text e = absurd cc
line_split (b ∷ bs) text e = go (line_split bs text) (b == 32) refl e
  where
    go : (after_space bs ≡ Some text → bs ≡ first_word bs ++ 32 ∷ text) → (t : Bool) → (b == 32) ≡ t → cond t (Some bs) (after_space bs) ≡ Some text
        → b ∷ bs ≡ cond t [] (b ∷ first_word bs) ++ 32 ∷ text
    go more true is e = let b_is : b ≡ 32 = eqb-true b 32 is in let same : bs ≡ text = cc in λ i. b_is i ∷ same i
    go more false is e = ap (λ (l : Bytes). b ∷ l) (more e)

data_line : (line text : Bytes) → data_text line ≡ Some text → line ≡ codes "data" ++ 32 ∷ text
unfolding data_text
data_line line text e = go (bytes_eq (first_word line) (codes "data")) refl e
  where
    go : (t : Bool) → bytes_eq (first_word line) (codes "data") ≡ t → cond t (after_space line) None ≡ Some text → line ≡ codes "data" ++ 32 ∷ text
    go true is e =
        line_split line text e
        ∙ ap (λ (w : Bytes). w ++ 32 ∷ text) ((bytes_eq-Decides (first_word line) (codes "data")).0 is)
    go false is e = absurd cc

delimiter_after : (text d : Bytes) → delimiter_in text ≡ Ok d → d ≡ drop 2 text
delimiter_after [] d e = absurd cc
delimiter_after (a ∷ []) d e = absurd cc
delimiter_after (a ∷ b ∷ []) d e = absurd cc
delimiter_after (a ∷ b ∷ c ∷ cs) d e = go ((a == 60) && (b == 60)) e
  where
    go : (t : Bool) → cond {A = Result Bytes Why} t (Ok (c ∷ cs)) (Err BadData) ≡ Ok d → d ≡ c ∷ cs
    go true e = cc
    go false e = absurd cc

-- it is what is after `data <<`
pub delimiter_place : (line d : Bytes) → extent_in line ≡ Ok (Delimited d) → d ≡ drop 7 line
unfolding extent_in
delimiter_place line d e = go (data_text line) refl e
  where
    in_text : (text : Bytes) (o : Option ℕ) → extent_by text o ≡ Ok (Delimited d) → delimiter_in text ≡ Ok d
    in_text text (Some n) e = absurd cc
    in_text text None e = of (delimiter_in text) e
      where
        of : (r : Result Bytes Why) → (r >>= λ x. Ok (Delimited x)) ≡ Ok (Delimited d) → r ≡ Ok d
        of (Ok x) e = cc
        of (Err why) e = absurd cc

    go : (o : Option Bytes) → data_text line ≡ o → (or_defect BadData o >>= λ text. extent_by text (number_of text)) ≡ Ok (Delimited d) → d ≡ drop 7 line
    go None is e = absurd cc
    go (Some text) is e = delimiter_after text d (in_text text (number_of text) e) ∙ ap (drop 7) (sym (data_line line text is))

-- ---- delimited

module _ (delimiter : Bytes) where
  -- a whole line that goes on after what has begun
  pub whole_line : (kept begun line more : Bytes) → has_no_lf line ≡ true
      → delimited delimiter kept begun (line ++ 10 ∷ more) ≡ cond (bytes_eq (begun ++ line) delimiter) (Some (kept, more)) (delimited delimiter (kept ++ (begun ++ line) ++ 10 ∷ []) [] more)
  unfolding delimited
  whole_line kept begun [] more h = ap (λ (l : Bytes). cond (bytes_eq l delimiter) (Some (kept, more)) (delimited delimiter (kept ++ l ++ 10 ∷ []) [] more)) (sym (append-nil begun))
  whole_line kept begun (b ∷ line) more h =
      let p = and_parts (not (b == 10)) (has_no_lf line) h in
      cond-false (b == 10) (cond (bytes_eq begun delimiter) (Some (kept, line ++ 10 ∷ more)) (delimited delimiter (kept ++ begun ++ 10 ∷ []) [] (line ++ 10 ∷ more))) (delimited delimiter kept (begun ++ b ∷ []) (line ++ 10 ∷ more)) (not-true (b == 10) p.0)
      ∙ whole_line kept (begun ++ b ∷ []) line more p.1
      ∙ ap (λ (l : Bytes). cond (bytes_eq l delimiter) (Some (kept, more)) (delimited delimiter (kept ++ l ++ 10 ∷ []) [] more)) (append_assoc begun (b ∷ []) line)

  -- a last line without its LF
  pub last_line : (kept begun line : Bytes) → has_no_lf line ≡ true → delimited delimiter kept begun line ≡ cond (bytes_eq (begun ++ line) delimiter) (Some (kept, [])) None
  unfolding delimited
  last_line kept begun [] h = ap (λ (l : Bytes). cond (bytes_eq l delimiter) (Some (kept, [])) None) (sym (append-nil begun))
  last_line kept begun (b ∷ line) h =
      let p = and_parts (not (b == 10)) (has_no_lf line) h in
      cond-false (b == 10) (cond (bytes_eq begun delimiter) (Some (kept, line)) (delimited delimiter (kept ++ begun ++ 10 ∷ []) [] line)) (delimited delimiter kept (begun ++ b ∷ []) line) (not-true (b == 10) p.0)
      ∙ last_line kept (begun ++ b ∷ []) line p.1
      ∙ ap (λ (l : Bytes). cond (bytes_eq l delimiter) (Some (kept, [])) None) (append_assoc begun (b ∷ []) line)

  -- at the end of a text, where the delimiter has a byte
  pub no_line : (kept : Bytes) → 1 ≤ length delimiter → delimited delimiter kept [] [] ≡ None
  no_line kept h = last_line kept [] [] refl ∙ go delimiter h
    where
      go : (d : Bytes) → 1 ≤ length d → cond {A = Option (Bytes × Bytes)} (bytes_eq [] d) (Some (kept, [])) None ≡ None
      go [] h = absurd (omega arith)
      go (b ∷ bs) h = refl
