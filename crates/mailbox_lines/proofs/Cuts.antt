-- Lines, as they are cut off the front of bytes.
use Rattle.std.proofs.Common.{◌≡◌, ℕ, zero, suc, ◌+◌, ◌<◌, ◌==◌, true, false, List, [], ◌∷◌, Some, None, length, get_or, take, drop, refl, ap, ◌∙◌, arith, zero-le, add-one}
use Rattle.std.proofs.lemmas.Bool.{false_from_ne_true, cond-true, cond-false}
use Rattle.memchr.specs.Find.{IsFirstByte, is_byte}
use Rattle.plain_model.specs.Paths.{Bytes}
use Rattle.plain_model.specs.Text.{line}
use Rattle.mailbox_laws.specs.Boxes.{in_first, lines_in}

abbrev NoneBelow : List ℕ → ℕ → Type 0
NoneBelow bytes end = (k : ℕ) → k < end → (get_or bytes k 0 == 10) ≡ true → ⊥

-- a line up to an LF
cut_at : (bytes : Bytes) (at : ℕ) → at < length bytes → (get_or bytes at 0 == 10) ≡ true → NoneBelow bytes at
    → lines_in bytes ≡ take at bytes ∷ lines_in (drop (suc at) bytes)
cut_at [] at within here before = absurd (omega arith)
cut_at (b ∷ bs) zero within here before = cond-true (b == 10) ([] ∷ lines_in bs) (in_first b (lines_in bs)) here
cut_at (b ∷ bs) (suc at) within here before =
    let other : (b == 10) ≡ false = false_from_ne_true (b == 10) (before zero (omega arith)) in
    cond-false (b == 10) ([] ∷ lines_in bs) (in_first b (lines_in bs)) other
    ∙ ap (in_first b) (cut_at bs at (omega arith) here (λ k l. before (suc k) (omega arith)))

pub line_cut : (bytes : Bytes) (at : ℕ) → IsFirstByte (is_byte 10) bytes (Some at) → lines_in bytes ≡ take at bytes ∷ lines_in (drop (at + 1) bytes)
line_cut bytes at h = rw add-one (cut_at bytes at h.0.high h.1 (λ k l. h.0.before k zero-le l))

-- a line that no LF ends
whole : (b : ℕ) (bs : Bytes) → NoneBelow (b ∷ bs) (length (b ∷ bs)) → lines_in (b ∷ bs) ≡ (b ∷ bs) ∷ []
whole b [] none =
    let other : (b == 10) ≡ false = false_from_ne_true (b == 10) (none zero (omega arith)) in
    cond-false (b == 10) ([] ∷ []) ((b ∷ []) ∷ []) other
whole b (c ∷ cs) none =
    let other : (b == 10) ≡ false = false_from_ne_true (b == 10) (none zero (omega arith)) in
    cond-false (b == 10) ([] ∷ lines_in (c ∷ cs)) (in_first b (lines_in (c ∷ cs))) other
    ∙ ap (in_first b) (whole c cs (λ k l. none (suc k) (omega arith)))

pub line_whole : (bytes : Bytes) → (length bytes == 0) ≡ false → IsFirstByte (is_byte 10) bytes None → lines_in bytes ≡ bytes ∷ []
line_whole [] some h = cc
line_whole (b ∷ bs) some h = whole b bs (λ k l. h k zero-le l)

-- a text and one LF: its first line
piece_at : (text : Bytes) (at : ℕ) → at < length text → (get_or text at 0 == 10) ≡ true → NoneBelow text at
    → lines_in (line text) ≡ take at text ∷ lines_in (line (drop (suc at) text))
piece_at [] at within here before = absurd (omega arith)
piece_at (b ∷ bs) zero within here before = cond-true (b == 10) ([] ∷ lines_in (line bs)) (in_first b (lines_in (line bs))) here
piece_at (b ∷ bs) (suc at) within here before =
    let other : (b == 10) ≡ false = false_from_ne_true (b == 10) (before zero (omega arith)) in
    cond-false (b == 10) ([] ∷ lines_in (line bs)) (in_first b (lines_in (line bs))) other
    ∙ ap (in_first b) (piece_at bs at (omega arith) here (λ k l. before (suc k) (omega arith)))

pub piece_cut : (text : Bytes) (at : ℕ) → IsFirstByte (is_byte 10) text (Some at) → lines_in (line text) ≡ take at text ∷ lines_in (line (drop (at + 1) text))
piece_cut text at h = rw add-one (piece_at text at h.0.high h.1 (λ k l. h.0.before k zero-le l))

last_piece : (text : Bytes) → NoneBelow text (length text) → lines_in (line text) ≡ text ∷ []
last_piece [] none = refl
last_piece (b ∷ bs) none =
    let other : (b == 10) ≡ false = false_from_ne_true (b == 10) (none zero (omega arith)) in
    cond-false (b == 10) ([] ∷ lines_in (line bs)) (in_first b (lines_in (line bs))) other
    ∙ ap (in_first b) (last_piece bs (λ k l. none (suc k) (omega arith)))

pub piece_whole : (text : Bytes) → IsFirstByte (is_byte 10) text None → lines_in (line text) ≡ text ∷ []
piece_whole text h = last_piece text (λ k l. h k zero-le l)
