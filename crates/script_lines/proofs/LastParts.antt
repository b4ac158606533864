-- What is after the last slash.
use Rattle.std.proofs.Common.{◌≡◌, ℕ, zero, suc, ◌+◌, ◌<◌, ◌==◌, true, false, List, [], ◌∷◌, Some, None, length, get_or, drop, refl, arith, zero-le, add-one}
use Rattle.std.proofs.lemmas.Bool.{false_from_ne_true}
use Rattle.std.specs.List.{list_any}
use Rattle.memchr.specs.Find.{IsLastByte, is_byte}
use Rattle.script_lines.specs.Names.{last_part}
use Rattle.script_lines.proofs.LineCuts.{Misses}

-- no slash is after a place
abbrev NoneAfter : List ℕ → ℕ → Type 0
NoneAfter bytes at = (k : ℕ) → at < k → k < length bytes → (get_or bytes k 0 == 47) ≡ true → ⊥

no_slash : (bytes : List ℕ) → Misses 47 bytes → list_any (λ c. c == 47) bytes ≡ false
no_slash [] none = refl
no_slash (b ∷ bs) none =
    let other : (b == 47) ≡ false = false_from_ne_true (b == 47) (none zero (omega arith)) in
    rw other (no_slash bs (λ k l. none (suc k) (omega arith)))

some_slash : (bytes : List ℕ) (at : ℕ) → at < length bytes → (get_or bytes at 0 == 47) ≡ true
    → list_any (λ c. c == 47) bytes ≡ true
some_slash [] at within here = absurd (omega arith)
some_slash (b ∷ bs) zero within here = rw here
some_slash (b ∷ bs) (suc at) within here = grind (arith, some_slash bs at (omega arith) here)

all_of : (bytes : List ℕ) → Misses 47 bytes → last_part bytes ≡ bytes
all_of [] none = refl
all_of (b ∷ bs) none = rw (no_slash (b ∷ bs) none) refl

comes_after : (bytes : List ℕ) (at : ℕ) → at < length bytes → (get_or bytes at 0 == 47) ≡ true → NoneAfter bytes at
    → last_part bytes ≡ drop (suc at) bytes
comes_after [] at within here after = absurd (omega arith)
comes_after (b ∷ bs) zero within here after =
    rw (some_slash (b ∷ bs) zero within here) (all_of bs (λ k l. after (suc k) (omega arith) (omega arith)))
comes_after (b ∷ bs) (suc at) within here after =
    rw (some_slash (b ∷ bs) (suc at) within here)
    (comes_after bs at (omega arith) here (λ k l m. after (suc k) (omega arith) (omega arith)))

pub part_after : (bytes : List ℕ) (at : ℕ) → IsLastByte (is_byte 47) bytes (Some at) → last_part bytes ≡ drop (at + 1) bytes
part_after bytes at h = rw add-one (comes_after bytes at h.0.high h.1 (λ k l m. h.0.after k (omega arith) m))

pub part_whole : (bytes : List ℕ) → IsLastByte (is_byte 47) bytes None → last_part bytes ≡ bytes
part_whole bytes h = all_of bytes (λ k l. h k zero-le l)
