-- Lines, as they are cut off the front of bytes.
use Rattle.std.proofs.Common.{◌≡◌, ℕ, zero, suc, ◌+◌, ◌<◌, ◌==◌, true, false, List, [], ◌∷◌, ◌++◌, Some, None, length, get_or, take, drop, refl, sym, ap, ◌∙◌, append-nil, append_assoc, arith, zero-le, add-one}
use Rattle.std.proofs.lemmas.Bool.{false_from_ne_true}
use Rattle.memchr.specs.Find.{IsFirstByte, is_byte}
use Rattle.script_lines.specs.Scripts.{last_line, lines_from, lines_of}

-- the byte is at none of the places
abbrev pub NoneBelow : ℕ → List ℕ → ℕ → Type 0
NoneBelow byte bytes end = (k : ℕ) → k < end → (get_or bytes k 0 == byte) ≡ true → ⊥

-- the byte isn't there
abbrev pub Misses : ℕ → List ℕ → Type 0
Misses byte bytes = NoneBelow byte bytes (length bytes)

-- a line up to an LF
cut_at : (begun bytes : List ℕ) (at : ℕ) → at < length bytes → (get_or bytes at 0 == 10) ≡ true → NoneBelow 10 bytes at
    → lines_from begun bytes ≡ (begun ++ take at bytes) ∷ lines_of (drop (suc at) bytes)
cut_at begun [] at within here before = absurd (omega arith)
cut_at begun (b ∷ bs) zero within here before = rw here (ap (λ line. line ∷ lines_of bs) (sym (append-nil begun)))
cut_at begun (b ∷ bs) (suc at) within here before =
    let other : (b == 10) ≡ false = false_from_ne_true (b == 10) (before zero (omega arith)) in
    let rest = drop (suc at) bs in
    rw other (cut_at (begun ++ b ∷ []) bs at (omega arith) here (λ k l. before (suc k) (omega arith))
    ∙ ap (λ line. line ∷ lines_of rest) (append_assoc begun (b ∷ []) (take at bs)))

pub line_cut : (bytes : List ℕ) (at : ℕ) → IsFirstByte (is_byte 10) bytes (Some at)
    → lines_of bytes ≡ take at bytes ∷ lines_of (drop (at + 1) bytes)
line_cut bytes at h = rw add-one (cut_at [] bytes at h.0.high h.1 (λ k l. h.0.before k zero-le l))

-- a line that no LF ends
whole : (begun bytes : List ℕ) → Misses 10 bytes → lines_from begun bytes ≡ last_line (begun ++ bytes)
whole begun [] none = ap last_line (sym (append-nil begun))
whole begun (b ∷ bs) none =
    let other : (b == 10) ≡ false = false_from_ne_true (b == 10) (none zero (omega arith)) in
    rw other (whole (begun ++ b ∷ []) bs (λ k l. none (suc k) (omega arith)) ∙ ap last_line (append_assoc begun (b ∷ []) bs))

counts : (bytes : List ℕ) → (length bytes == 0) ≡ false → last_line bytes ≡ bytes ∷ []
counts [] h = cc
counts (b ∷ bs) h = refl

pub line_whole : (bytes : List ℕ) → (length bytes == 0) ≡ false → IsFirstByte (is_byte 10) bytes None
    → lines_of bytes ≡ bytes ∷ []
line_whole bytes some h = whole [] bytes (λ k l. h k zero-le l) ∙ counts bytes some
