-- Lines of a block that goes up to a delimiter, one after another.
use Rattle.std.proofs.Common.{◌≡◌, ◌⊎◌, inl, inr, ℕ, ◌+◌, ◌≤◌, ◌<◌, true, false, [], ◌∷◌, ◌++◌, length, take, drop, get_or, Option, Some, None, refl, sym, ap, ◌∙◌, arith, append_assoc, drop-drop, drop_at, eqb-true, length-take, length-drop, length-append}
use Rattle.std.specs.Prelude.{◌==◌, bytes_eq}
use Rattle.std.specs.List.{position}
use Rattle.std.proofs.Math.Seq.{take-add}
use Rattle.std.proofs.lemmas.Bool.{cond-true, cond-false}
use Rattle.std.proofs.lemmas.List.{take_all, drop_all}
use Rattle.plain_model.specs.Paths.{Bytes}
use Rattle.plain_model.specs.Parts.{has_no_lf}
use Rattle.plain_model.specs.Fields.{delimited}
use Rattle.field_laws.proofs.Lines.{position_is, position_none}
use Rattle.field_laws.proofs.Blocks.{whole_line, last_line, no_line}
use Rattle.stream_fields.specs.Blocks.{IsFirstLine}

-- the first LF ends the first line
pub line_ended : (text : Bytes) (at : ℕ) → at < length text → position (λ b. b == 10) text ≡ Some at → IsFirstLine text at (at + 1)
line_ended text at lt e =
    let p = position_is (λ b. b == 10) text at e in
    record {
      plain = p.0;
      within = omega arith;
      ends = inl (refl, p.2 ∙ ap (λ c. take at text ++ c ∷ drop (at + 1) text) (eqb-true (get_or text at 0) 10 p.1));
    }

-- without one the text is a line
pub line_unended : (text : Bytes) → position (λ b. b == 10) text ≡ None → IsFirstLine text (length text) (length text)
line_unended text e = record {
  plain = ap has_no_lf (take_all (length text) text (omega arith)) ∙ position_none (λ b. b == 10) text e;
  within = omega arith;
  ends = inr (refl, refl);
}

module _ (delimiter kept text : Bytes) (size next : ℕ) (line : IsFirstLine text size next) where
  same : size ≡ length text → take size text ≡ text
  same e = take_all size text (omega arith)

  -- the line of the delimiter
  pub delimiter_found : bytes_eq (take size text) delimiter ≡ true → delimited delimiter kept [] text ≡ Some (kept, drop next text)
  delimiter_found h = go line.ends
    where
      made : Bytes → Option (Bytes × Bytes)
      made rest = Some (kept, rest)

      go : ((next ≡ size + 1) × (text ≡ take size text ++ 10 ∷ drop next text)) ⊎ ((next ≡ length text) × (size ≡ length text)) → delimited delimiter kept [] text ≡ made (drop next text)
      go (inl e) =
          ap (delimited delimiter kept []) e.1 ∙ whole_line delimiter kept [] (take size text) (drop next text) line.plain
          ∙ cond-true (bytes_eq (take size text) delimiter) (made (drop next text)) (delimited delimiter (kept ++ take size text ++ 10 ∷ []) [] (drop next text)) h
      go (inr e) =
          ap (delimited delimiter kept []) (sym (same e.1)) ∙ last_line delimiter kept [] (take size text) line.plain
          ∙ cond-true (bytes_eq (take size text) delimiter) (made []) None h
          ∙ ap made (sym (drop_all next text (omega (arith, e.0))))

  -- the line and its LF
  with_end : next ≡ size + 1 → text ≡ take size text ++ 10 ∷ drop next text → take next text ≡ take size text ++ 10 ∷ []
  with_end n is =
      let all : size ≡ length (take size text) = omega (arith, length-take size text, line.within) in
      let rest : drop size text ≡ 10 ∷ drop next text = ap (drop size) is ∙ drop_at (take size text) (10 ∷ drop next text) size (sym all) in
      ap (λ k. take k text) n ∙ take-add size 1 text ∙ ap (λ (r : Bytes). take size text ++ take 1 r) rest

  -- any other line is kept
  pub line_kept : 1 ≤ length delimiter → bytes_eq (take size text) delimiter ≡ false → delimited delimiter kept [] text ≡ delimited delimiter (kept ++ take next text) [] (drop next text)
  line_kept some h = go line.ends
    where
      go : ((next ≡ size + 1) × (text ≡ take size text ++ 10 ∷ drop next text)) ⊎ ((next ≡ length text) × (size ≡ length text))
          → delimited delimiter kept [] text ≡ delimited delimiter (kept ++ take next text) [] (drop next text)
      go (inl e) =
          ap (delimited delimiter kept []) e.1 ∙ whole_line delimiter kept [] (take size text) (drop next text) line.plain
          ∙ cond-false (bytes_eq (take size text) delimiter) (Some (kept, drop next text)) (delimited delimiter (kept ++ take size text ++ 10 ∷ []) [] (drop next text)) h
          ∙ ap (λ (k : Bytes). delimited delimiter k [] (drop next text)) (append_assoc kept (take size text) (10 ∷ []) ∙ ap (λ (k : Bytes). kept ++ k) (sym (with_end e.0 e.1)))
      go (inr e) =
          ap (delimited delimiter kept []) (sym (same e.1)) ∙ last_line delimiter kept [] (take size text) line.plain
          ∙ cond-false (bytes_eq (take size text) delimiter) (Some (kept, [])) None h
          ∙ sym (no_line delimiter (kept ++ take next text) some)
          ∙ ap (delimited delimiter (kept ++ take next text) []) (sym (drop_all next text (omega (arith, e.0))))

-- in a text of which the first bytes are kept
module _ (delimiter text rest : Bytes) (at size next : ℕ) (all : Option (Bytes × Bytes)) (is : rest ≡ drop at text) (line : IsFirstLine rest size next) (so_far : delimited delimiter (take at text) [] (drop at text) ≡ all) where
  here : delimited delimiter (take at text) [] rest ≡ all
  here = ap (delimited delimiter (take at text) []) is ∙ so_far

  after : drop next rest ≡ drop (at + next) text
  after = ap (drop next) is ∙ drop-drop next at text

  pub found_here : bytes_eq (take size rest) delimiter ≡ true → ◌≡◌ {A = Option (Bytes × Bytes)} (Some (take at text, drop (at + next) text)) all
  found_here h =
      ap (λ (r : Bytes). Some (take at text, r)) (sym after)
      ∙ sym (delimiter_found delimiter (take at text) rest size next line h) ∙ here

  pub kept_on : 1 ≤ length delimiter → bytes_eq (take size rest) delimiter ≡ false → delimited delimiter (take (at + next) text) [] (drop (at + next) text) ≡ all
  kept_on some h =
      ap (λ (k : Bytes). delimited delimiter k [] (drop (at + next) text)) (take-add at next text ∙ ap (λ (r : Bytes). take at text ++ take next r) (sym is))
      ∙ ap (delimited delimiter (take at text ++ take next rest) []) (sym after)
      ∙ sym (line_kept delimiter (take at text) rest size next line some h) ∙ here

  pub next_within : at ≤ length text → at + next ≤ length text
  next_within h = go line.ends
    where
      go : ((next ≡ size + 1) × (rest ≡ take size rest ++ 10 ∷ drop next rest)) ⊎ ((next ≡ length rest) × (size ≡ length rest)) → at + next ≤ length text
      go (inl e) = omega (arith, e.0, ap length e.1, length-append (take size rest) (10 ∷ drop next rest), length-take size rest, line.within, ap length is, length-drop at text)
      go (inr e) = omega (arith, e.0, ap length is, length-drop at text)
