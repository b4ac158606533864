-- The block after a line of data, as the reading of a stream's fields cuts it off.
use Rattle.std.proofs.Common.{◌≡◌, ℕ, ◌≤◌, Bool, true, false, cond, [], ◌∷◌, length, Option, Some, None, Result, Ok, Err, refl, sym, ◌∙◌, ap, subst, arith}
use Rattle.std.specs.Prelude.{◌==◌, ◌&&◌}
use Rattle.plain_model.specs.declared.fault.Why.{Why}
use Rattle.plain_model.specs.declared.fault.Why.TheVariants.{BadData, Truncated}
use Rattle.plain_model.specs.Paths.{Bytes}
use Rattle.plain_model.specs.Parts.{number_of, skip_lf}
use Rattle.plain_model.specs.Fields.{Extent, or_defect, ◌>>=◌, delimiter_in, extent_by, data_text, extent_in, block_at, block_after, block_in}
use Rattle.plain_model.specs.Fields.Extent.{Counted, Delimited}
use Rattle.line_automaton.specs.Lines.{HasDelimiter}

-- ---- the extent of a block

delimiter_has_a_byte : (text delimiter : Bytes) → delimiter_in text ≡ Ok delimiter → 1 ≤ length delimiter
delimiter_has_a_byte [] delimiter e = absurd cc
delimiter_has_a_byte (a ∷ []) delimiter e = absurd cc
delimiter_has_a_byte (a ∷ b ∷ []) delimiter e = absurd cc
delimiter_has_a_byte (a ∷ b ∷ c ∷ cs) delimiter e = go ((a == 60) && (b == 60)) e
  where
    go : (t : Bool) → cond {A = Result Bytes Why} t (Ok (c ∷ cs)) (Err BadData) ≡ Ok delimiter → 1 ≤ length delimiter
    go true e = let is : c ∷ cs ≡ delimiter = cc in subst (λ (l : Bytes). 1 ≤ length l) is (omega arith)
    go false e = absurd cc

-- the delimiter of a line of data has a byte
pub extent_has_delimiter : (head : Bytes) (extent : Extent) → extent_in head ≡ Ok extent → HasDelimiter extent
unfolding extent_in
extent_has_delimiter head extent e = go (data_text head) e
  where
    delimited : (r : Result Bytes Why) → ((d : Bytes) → r ≡ Ok d → 1 ≤ length d) → (r >>= λ d. Ok (Delimited d)) ≡ Ok extent → HasDelimiter extent
    delimited (Err why) some e = absurd cc
    delimited (Ok d) some e = let is : Delimited d ≡ extent = cc in subst HasDelimiter is (some d refl)

    by_number : (text : Bytes) (o : Option ℕ) → extent_by text o ≡ Ok extent → HasDelimiter extent
    by_number text (Some n) e = let is : Counted n ≡ extent = cc in subst HasDelimiter is tt
    by_number text None e = delimited (delimiter_in text) (delimiter_has_a_byte text) e

    go : (o : Option Bytes) → (or_defect BadData o >>= λ text. extent_by text (number_of text)) ≡ Ok extent → HasDelimiter extent
    go None e = absurd cc
    go (Some text) e = by_number text (number_of text) e

-- ---- the block

-- the bytes of a block, and what is after the LF that may follow
abbrev with_lf : Bytes × Bytes → Result (Bytes × Bytes) Why
with_lf x = Ok (x.0, skip_lf x.1)

abbrev taken : Option (Bytes × Bytes) → Result (Bytes × Bytes) Why
taken o = or_defect Truncated o >>= with_lf

-- a block by its extent
block_by : (head text : Bytes) (extent : Extent) → extent_in head ≡ Ok extent → block_in head text ≡ taken (block_at extent text)
unfolding block_in block_after
block_by head text extent e = ap (λ (r : Result Extent Why). r >>= (λ x. or_defect Truncated (block_at x text)) >>= with_lf) e

bytes_or : Bytes × Bytes → Result (Bytes × Bytes) Why → Bytes × Bytes
bytes_or other (Ok x) = x
bytes_or other (Err why) = other

-- what was taken is there
block_is : (o : Option (Bytes × Bytes)) (bytes after : Bytes) → taken o ≡ Ok (bytes, after) → (rest : Bytes) × (o ≡ Some (bytes, rest)) × (after ≡ skip_lf rest)
unfolding bytes_or
block_is None bytes after h = absurd cc
block_is (Some x) bytes after h =
    let same : (x.0, skip_lf x.1) ≡ (bytes, after) = ap (bytes_or (bytes, after)) h in
    (x.1, (λ i. Some ((same i).0, x.1)), sym (ap (λ (p : Bytes × Bytes). p.1) same))

-- what wasn't isn't
block_is_not : (o : Option (Bytes × Bytes)) (why : Why) → taken o ≡ Err why → (o ≡ None) × (why ≡ Truncated)
block_is_not None why h = (refl, let is : Truncated ≡ why = cc in sym is)
block_is_not (Some x) why h = absurd cc

-- A block that is cut off by its line: it is there, with what is after it.
pub block_there : (head text bytes after : Bytes) (extent : Extent) → extent_in head ≡ Ok extent → block_in head text ≡ Ok (bytes, after)
    → (rest : Bytes) × (block_at extent text ≡ Some (bytes, rest)) × (after ≡ skip_lf rest)
block_there head text bytes after extent e h = block_is (block_at extent text) bytes after (sym (block_by head text extent e) ∙ h)

-- The one defect after a line of data: the block isn't there.
pub block_not_there : (head text : Bytes) (extent : Extent) (why : Why) → extent_in head ≡ Ok extent → block_in head text ≡ Err why
    → (block_at extent text ≡ None) × (why ≡ Truncated)
block_not_there head text extent why e h = block_is_not (block_at extent text) why (sym (block_by head text extent e) ∙ h)
