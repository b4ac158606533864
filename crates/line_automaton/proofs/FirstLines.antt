-- The first lines of a text, and the rest of it.
use Rattle.std.proofs.Common.{◌≡◌, ℕ, zero, suc, ◌≤◌, Bool, true, false, cond, not, [], ◌∷◌, ◌++◌, refl, sym, ◌∙◌, ap, inl, inr, ◌⊎◌, arith, append-nil}
use Rattle.plain_model.specs.Paths.{Bytes}
use Rattle.plain_model.specs.Parts.{is_lf}
use Rattle.line_automaton.specs.Machine.{through, HaveSameLines}

-- the text has so many lines; a last one may be without its LF
abbrev pub has_lines : Bool → ℕ → Bytes → Bool
has_lines inside zero xs = true
has_lines false (suc n) [] = false
has_lines true (suc zero) [] = true
has_lines true (suc (suc n)) [] = false
has_lines inside (suc n) (x ∷ xs) = cond (is_lf x) (has_lines false n xs) (has_lines true (suc n) xs)

-- whether a line has begun after the text, which begins inside a line or between two
abbrev pub inside_after : Bool → Bytes → Bool
inside_after inside [] = inside
inside_after inside (x ∷ xs) = inside_after (not (is_lf x)) xs

-- A text and its first lines: it is shorter and ends in an LF; or a rest follows them; or the last of them misses its LF.
abbrev pub Parts : Bytes → Bytes → Bool → Bool → Type 0
Parts first xs inside has_all =
    ((first ≡ xs) × (inside ≡ false))
    ⊎ (((rest : Bytes) × (xs ≡ first ++ rest) × (has_all ≡ true))
    ⊎ ((first ≡ xs ++ 10 ∷ []) × (inside ≡ true)))

-- a byte in front
byte_more : (x : ℕ) (first xs : Bytes) (inside has_all : Bool) → Parts first xs inside has_all → Parts (x ∷ first) (x ∷ xs) inside has_all
byte_more x first xs inside has_all (inl short) = inl (ap (λ (l : Bytes). x ∷ l) short.0, short.1)
byte_more x first xs inside has_all (inr (inl there)) = inr (inl (there.0, ap (λ (l : Bytes). x ∷ l) there.1, there.2))
byte_more x first xs inside has_all (inr (inr misses)) = inr (inr (ap (λ (l : Bytes). x ∷ l) misses.0, misses.1))

pub in_parts : (inside : Bool) (n : ℕ) (xs : Bytes) → Parts (through inside n xs) xs (inside_after inside xs) (has_lines inside n xs)
in_parts inside zero xs = inr (inl (xs, refl, refl))
in_parts false (suc n) [] = inl (refl, refl)
in_parts true (suc n) [] = inr (inr (refl, refl))
in_parts inside (suc n) (x ∷ xs) = go (is_lf x) (in_parts false n xs) (in_parts true (suc n) xs)
  where
    go : (t : Bool)
        → Parts (through false n xs) xs (inside_after false xs) (has_lines false n xs)
        → Parts (through true (suc n) xs) xs (inside_after true xs) (has_lines true (suc n) xs)
        → Parts (x ∷ cond t (through false n xs) (through true (suc n) xs)) (x ∷ xs) (inside_after (not t) xs)
        (cond t (has_lines false n xs) (has_lines true (suc n) xs))
    go true p q = byte_more x (through false n xs) xs (inside_after false xs) (has_lines false n xs) p
    go false p q = byte_more x (through true (suc n) xs) xs (inside_after true xs) (has_lines true (suc n) xs) q

-- the first lines end a line
pub first_lines_end : (inside : Bool) (n : ℕ) (xs : Bytes) → (inside ≡ true → 1 ≤ n) → inside_after inside (through inside n xs) ≡ false
first_lines_end false zero xs h = refl
first_lines_end true zero xs h = let no : 1 ≤ 0 = h refl in absurd (omega arith)
first_lines_end false (suc n) [] h = refl
first_lines_end true (suc n) [] h = refl
first_lines_end inside (suc n) (x ∷ xs) h =
    go (is_lf x) (first_lines_end false n xs (λ e. absurd cc)) (first_lines_end true (suc n) xs (λ e. omega arith))
  where
    go : (t : Bool) → inside_after false (through false n xs) ≡ false → inside_after true (through true (suc n) xs) ≡ false
        → inside_after (not t) (cond t (through false n xs) (through true (suc n) xs)) ≡ false
    go true p q = p
    go false p q = q

-- the first lines of a text and of any that begins with these lines
pub through_again : (inside : Bool) (n : ℕ) (xs more : Bytes) → has_lines inside n xs ≡ true → through inside n (through inside n xs ++ more) ≡ through inside n xs
through_again inside zero xs more h = refl
through_again false (suc n) [] more h = absurd cc
through_again true (suc zero) [] more h = refl
through_again true (suc (suc n)) [] more h = absurd cc
through_again inside (suc n) (x ∷ xs) more h = go (is_lf x) (through_again false n xs more) (through_again true (suc n) xs more) h
  where
    go : (t : Bool)
        → (has_lines false n xs ≡ true → through false n (through false n xs ++ more) ≡ through false n xs)
        → (has_lines true (suc n) xs ≡ true → through true (suc n) (through true (suc n) xs ++ more) ≡ through true (suc n) xs)
        → cond t (has_lines false n xs) (has_lines true (suc n) xs) ≡ true
        → x ∷ cond t (through false n (cond t (through false n xs) (through true (suc n) xs) ++ more))
        (through true (suc n) (cond t (through false n xs) (through true (suc n) xs) ++ more))
        ≡ x ∷ cond t (through false n xs) (through true (suc n) xs)
    go true p q h = ap (λ (l : Bytes). x ∷ l) (p h)
    go false p q h = ap (λ (l : Bytes). x ∷ l) (q h)

-- a text of fewer lines has no line more
pub no_line_more : (inside : Bool) (n : ℕ) (xs : Bytes) → has_lines inside n xs ≡ false → through inside (suc n) xs ≡ through inside n xs
no_line_more inside zero xs h = absurd cc
no_line_more false (suc n) [] h = refl
no_line_more true (suc zero) [] h = absurd cc
no_line_more true (suc (suc n)) [] h = refl
no_line_more inside (suc n) (x ∷ xs) h = go (is_lf x) (no_line_more false n xs) (no_line_more true (suc n) xs) h
  where
    go : (t : Bool)
        → (has_lines false n xs ≡ false → through false (suc n) xs ≡ through false n xs)
        → (has_lines true (suc n) xs ≡ false → through true (suc (suc n)) xs ≡ through true (suc n) xs)
        → cond t (has_lines false n xs) (has_lines true (suc n) xs) ≡ false
        → x ∷ cond t (through false (suc n) xs) (through true (suc (suc n)) xs) ≡ x ∷ cond t (through false n xs) (through true (suc n) xs)
    go true p q h = ap (λ (l : Bytes). x ∷ l) (p h)
    go false p q h = ap (λ (l : Bytes). x ∷ l) (q h)

-- the first lines are those of more lines
through_fewer : (inside : Bool) (n k : ℕ) (xs : Bytes) → n ≤ k → through inside n (through inside k xs) ≡ through inside n xs
through_fewer inside zero k xs h = refl
through_fewer inside (suc n) zero xs h = absurd (omega arith)
through_fewer false (suc n) (suc k) [] h = refl
through_fewer true (suc zero) (suc k) [] h = refl
through_fewer true (suc (suc n)) (suc k) [] h = refl
through_fewer inside (suc n) (suc k) (x ∷ xs) h = go (is_lf x) (through_fewer false n k xs (omega arith)) (through_fewer true (suc n) (suc k) xs h)
  where
    go : (t : Bool) → through false n (through false k xs) ≡ through false n xs → through true (suc n) (through true (suc k) xs) ≡ through true (suc n) xs
        → x ∷ cond t (through false n (cond t (through false k xs) (through true (suc k) xs))) (through true (suc n) (cond t (through false k xs) (through true (suc k) xs)))
        ≡ x ∷ cond t (through false n xs) (through true (suc n) xs)
    go true p q = ap (λ (l : Bytes). x ∷ l) p
    go false p q = ap (λ (l : Bytes). x ∷ l) q

-- texts with the same lines have the same first of them
pub same_fewer_lines : (n k : ℕ) (x y : Bytes) → n ≤ k → HaveSameLines k x y → HaveSameLines n x y
same_fewer_lines n k x y h same = sym (through_fewer false n k x h) ∙ ap (through false n) same ∙ through_fewer false n k y h

-- more lines go on from fewer ones
pub through_more : (inside : Bool) (n k : ℕ) (xs : Bytes) → n ≤ k → (rest : Bytes) × (through inside k xs ≡ through inside n xs ++ rest)
through_more inside zero k xs h = (through inside k xs, refl)
through_more inside (suc n) zero xs h = absurd (omega arith)
through_more inside (suc n) (suc k) [] h = ([], sym (append-nil (cond inside (10 ∷ []) [])))
through_more inside (suc n) (suc k) (b ∷ bs) h = go (is_lf b) (through_more false n k bs (omega arith)) (through_more true (suc n) (suc k) bs h)
  where
    go : (t : Bool) → (rest : Bytes) × (through false k bs ≡ through false n bs ++ rest) → (rest : Bytes) × (through true (suc k) bs ≡ through true (suc n) bs ++ rest)
        → (rest : Bytes) × (b ∷ cond t (through false k bs) (through true (suc k) bs) ≡ (b ∷ cond t (through false n bs) (through true (suc n) bs)) ++ rest)
    go true x y = (x.0, ap (λ (l : Bytes). b ∷ l) x.1)
    go false x y = (y.0, ap (λ (l : Bytes). b ∷ l) y.1)
