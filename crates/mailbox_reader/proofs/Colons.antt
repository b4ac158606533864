-- Header lines, as a search for `: ` finds them.
use Rattle.std.proofs.Common.{◌≡◌, ℕ, zero, suc, ◌+◌, ◌<◌, ◌==◌, Bool, true, false, Option, Some, None, [], ◌∷◌, get_or, length, take, drop, codes, refl, sym, ap, ◌∙◌, arith}
use Rattle.std.proofs.lemmas.Bool.{false_from_ne_true, and_parts, cond-true, cond-false, eqb-true, true≢false}
use Rattle.std.specs.Prelude.{◌&&◌, option_map}
use Rattle.memchr.specs.Find.{OccursAt}
use Rattle.plain_model.specs.Parts.{◌>>=◌, begins}
use Rattle.plain_model.specs.Paths.{Bytes}
use Rattle.mailbox_laws.specs.Headers.{colon_cut, header_in, with_name}
use Rattle.mailbox_laws.specs.Written.{Header}

abbrev OccursThere : Bytes → ℕ → Type 0
OccursThere bytes k = OccursAt bytes (58 ∷ 32 ∷ []) k

begins_there : (bytes : Bytes) → OccursThere bytes 0 → begins (codes ": ") bytes ≡ true
begins_there [] h = absurd (let fits = h.fits in omega arith)
begins_there (b ∷ []) h = absurd (let fits = h.fits in omega arith)
begins_there (b ∷ c ∷ bs) h =
    let first : b ≡ 58 = h.reads 0 (omega arith) in
    let second : c ≡ 32 = h.reads 1 (omega arith) in
    rw (first, second) refl

there_begins : (bytes : Bytes) → begins (codes ": ") bytes ≡ true → OccursThere bytes 0
there_begins [] h = absurd (true≢false (sym h))
there_begins (b ∷ []) h = absurd (no_second (58 == b) h)
  where
    no_second : (t : Bool) → (t && false) ≡ true → ⊥
    no_second true h = true≢false (sym h)
    no_second false h = true≢false (sym h)
there_begins (b ∷ c ∷ bs) h =
    let parts = and_parts (58 == b) ((32 == c) && true) h in
    let rest = and_parts (32 == c) true parts.1 in
    record { fits = omega arith; reads = reads (sym (eqb-true 58 b parts.0)) (sym (eqb-true 32 c rest.0)) }
  where
    reads : b ≡ 58 → c ≡ 32 → (j : ℕ) → j < 2 → get_or (b ∷ c ∷ bs) (0 + j) 0 ≡ get_or (58 ∷ 32 ∷ []) j 0
    reads first second zero low = first
    reads first second (suc zero) low = second
    reads first second (suc (suc j)) low = absurd (omega arith)

occurs_later : (b : ℕ) (bs : Bytes) (k : ℕ) → OccursThere (b ∷ bs) (suc k) → OccursThere bs k
occurs_later b bs k h = record { fits = (let fits = h.fits in omega arith); reads = λ j low. reads j (h.reads j low) }
  where
    reads : (j : ℕ) → get_or (b ∷ bs) (suc k + j) 0 ≡ get_or (58 ∷ 32 ∷ []) j 0 → get_or bs (k + j) 0 ≡ get_or (58 ∷ 32 ∷ []) j 0
    reads j e = let same : suc k + j ≡ suc (k + j) = omega arith in ap (λ n. get_or (b ∷ bs) n 0) (sym same) ∙ e

occurs_sooner : (b : ℕ) (bs : Bytes) (k : ℕ) → OccursThere bs k → OccursThere (b ∷ bs) (suc k)
occurs_sooner b bs k h = record { fits = (let fits = h.fits in omega arith); reads = λ j low. reads j (h.reads j low) }
  where
    reads : (j : ℕ) → get_or bs (k + j) 0 ≡ get_or (58 ∷ 32 ∷ []) j 0 → get_or (b ∷ bs) (suc k + j) 0 ≡ get_or (58 ∷ 32 ∷ []) j 0
    reads j e = let same : suc k + j ≡ suc (k + j) = omega arith in ap (λ n. get_or (b ∷ bs) n 0) same ∙ e

-- a line is cut where `: ` occurs first
pub colon_at : (bytes : Bytes) (at : ℕ) → OccursThere bytes at → ((k : ℕ) → k < at → OccursThere bytes k → ⊥) → colon_cut bytes ≡ Some (take at bytes, drop (at + 2) bytes)
colon_at [] at h before = absurd (let fits = h.fits in omega arith)
colon_at (b ∷ bs) zero h before =
    cond-true (begins (codes ": ") (b ∷ bs)) (Some ([], drop 1 bs)) (option_map (λ (c : Header). (b ∷ c.0, c.1)) (colon_cut bs)) (begins_there (b ∷ bs) h)
colon_at (b ∷ bs) (suc at) h before =
    let other = false_from_ne_true (begins (codes ": ") (b ∷ bs)) (λ e. before zero (omega arith) (there_begins (b ∷ bs) e)) in
    let rest = colon_at bs at (occurs_later b bs at h) (λ k low here. before (suc k) (omega arith) (occurs_sooner b bs k here)) in
    let far : suc at + 2 ≡ suc (at + 2) = omega arith in
    cond-false (begins (codes ": ") (b ∷ bs)) (Some ([], drop 1 bs)) (option_map (λ (c : Header). (b ∷ c.0, c.1)) (colon_cut bs)) other
    ∙ ap (option_map (λ (c : Header). (b ∷ c.0, c.1))) rest
    ∙ ap (λ n. Some (b ∷ take at bs, drop n (b ∷ bs))) (sym far)

pub colon_none : (bytes : Bytes) → ((k : ℕ) → k < length bytes + 1 → OccursThere bytes k → ⊥) → colon_cut bytes ≡ None
colon_none [] none = refl
colon_none (b ∷ bs) none =
    let other = false_from_ne_true (begins (codes ": ") (b ∷ bs)) (λ e. none zero (omega arith) (there_begins (b ∷ bs) e)) in
    cond-false (begins (codes ": ") (b ∷ bs)) (Some ([], drop 1 bs)) (option_map (λ (c : Header). (b ∷ c.0, c.1)) (colon_cut bs)) other
    ∙ ap (option_map (λ (c : Header). (b ∷ c.0, c.1))) (colon_none bs (λ k low here. none (suc k) (omega arith) (occurs_sooner b bs k here)))

-- with a name before it
pub header_at : (line : Bytes) (at : ℕ) → OccursAt line (58 ∷ 32 ∷ []) at → ((k : ℕ) → k < at → OccursAt line (58 ∷ 32 ∷ []) k → ⊥)
    → 0 < at → at < length line → header_in line ≡ Some (take at line, drop (at + 2) line)
unfolding header_in
header_at line at here before some within =
    ap (λ (c : Option Header). c >>= with_name) (colon_at line at here before) ∙ named line at some within
  where
    named : (line : Bytes) (at : ℕ) → 0 < at → at < length line → with_name (take at line, drop (at + 2) line) ≡ Some (take at line, drop (at + 2) line)
    named [] at some within = absurd (omega arith)
    named (b ∷ bs) zero some within = absurd (omega arith)
    named (b ∷ bs) (suc at) some within = refl

-- without one
pub header_first : (line : Bytes) (at : ℕ) → OccursAt line (58 ∷ 32 ∷ []) at → ((k : ℕ) → k < at → OccursAt line (58 ∷ 32 ∷ []) k → ⊥)
    → at ≡ 0 → header_in line ≡ None
unfolding header_in
header_first line at here before first =
    ap (λ (c : Option Header). c >>= with_name) (colon_at line at here before)
    ∙ ap (λ n. with_name (take n line, drop (n + 2) line)) first ∙ unnamed line
  where
    unnamed : (line : Bytes) → with_name (take 0 line, drop 2 line) ≡ None
    unnamed [] = refl
    unnamed (b ∷ bs) = refl

pub header_none : (line : Bytes) → ((k : ℕ) → k < length line + 1 → OccursAt line (58 ∷ 32 ∷ []) k → ⊥) → header_in line ≡ None
unfolding header_in
header_none line none = ap (λ (c : Option Header). c >>= with_name) (colon_none line none)
