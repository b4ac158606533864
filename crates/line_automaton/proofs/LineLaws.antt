-- Lines in a text: where the first one ends, and how many there are.
use Rattle.std.proofs.Common.{◌≡◌, ℕ, suc, ◌+◌, ◌-◌, ◌≤◌, ◌<◌, Bool, true, false, cond, not, [], ◌∷◌, ◌++◌, length, take, drop, get_or, refl, sym, ◌∙◌, ap, subst, inl, inr, arith, append-nil}
use Rattle.std.specs.Prelude.{count_by, ◌||◌}
use Rattle.std.proofs.lemmas.Bool.{and_parts, not-true, cond-false}
use Rattle.std.proofs.lemmas.List.{drop_more, take-append-drop}
use Rattle.std.proofs.lemmas.List.Sums.{sum_by-cons}
use Rattle.plain_model.specs.Paths.{Bytes}
use Rattle.plain_model.specs.Parts.{is_lf, has_no_lf, skip_lf}
use Rattle.plain_model.specs.Parts.{IsLine}
use Rattle.line_automaton.specs.Lines.{line_count, number_after}
use Rattle.line_automaton.proofs.FirstLines.{inside_after}

-- ---- how many lines

-- the lines that are left, where a line may have begun
abbrev pub lines_left : Bool → Bytes → ℕ
lines_left inside [] = cond inside 1 0
lines_left inside (b ∷ bs) = cond (is_lf b) (1 + lines_left false bs) (lines_left true bs)

-- they are those of the text
pub lines_left_some : (inside : Bool) (b : ℕ) (bs : Bytes) → lines_left inside (b ∷ bs) ≡ line_count (b ∷ bs)
lines_left_some inside b [] = go (is_lf b)
  where
    go : (t : Bool) → cond t (1 + 0) 1 ≡ cond (t || true) (1 + 0) 0
    go true = refl
    go false = refl
lines_left_some inside b (c ∷ cs) = go (is_lf b) (lines_left_some false c cs) (lines_left_some true c cs)
  where
    go : (t : Bool) → lines_left false (c ∷ cs) ≡ line_count (c ∷ cs) → lines_left true (c ∷ cs) ≡ line_count (c ∷ cs)
        → cond t (1 + lines_left false (c ∷ cs)) (lines_left true (c ∷ cs)) ≡ cond (t || false) (1 + line_count (c ∷ cs)) (line_count (c ∷ cs))
    go true p q = ap (λ n. 1 + n) p
    go false p q = q

pub line_count_left : (text : Bytes) → line_count text ≡ lines_left false text
line_count_left [] = refl
line_count_left (b ∷ bs) = sym (lines_left_some false b bs)

pub count_cons : (b : ℕ) (bs : Bytes) → count_by is_lf (b ∷ bs) ≡ cond (is_lf b) 1 0 + count_by is_lf bs
count_cons b bs = sum_by-cons (λ x. cond (is_lf x) 1 0) b bs

-- the LFs of a front and the lines after it
pub lines_left_append : (inside : Bool) (front rest : Bytes) → lines_left inside (front ++ rest) ≡ count_by is_lf front + lines_left (inside_after inside front) rest
lines_left_append inside [] rest = omega arith
lines_left_append inside (b ∷ bs) rest =
    go (is_lf b) (lines_left_append false bs rest) (lines_left_append true bs rest)
    ∙ ap (λ n. n + lines_left (inside_after (not (is_lf b)) bs) rest) (sym (count_cons b bs))
  where
    go : (t : Bool) → lines_left false (bs ++ rest) ≡ count_by is_lf bs + lines_left (inside_after false bs) rest
        → lines_left true (bs ++ rest) ≡ count_by is_lf bs + lines_left (inside_after true bs) rest
        → cond t (1 + lines_left false (bs ++ rest)) (lines_left true (bs ++ rest)) ≡ cond t 1 0 + count_by is_lf bs + lines_left (inside_after (not t) bs) rest
    go true p q = omega arith
    go false p q = omega arith

-- The number of the line that begins with a byte is one more than the LFs before it, from line n on.
pub number_after_some : (n b : ℕ) (before rest : Bytes) → number_after n (before ++ b ∷ rest) (b ∷ rest) ≡ n + count_by is_lf before
number_after_some n b before rest =
    let whole = line_count_left (before ++ b ∷ rest) in
    let parts = lines_left_append false before (b ∷ rest) in
    let same = lines_left_some (inside_after false before) b rest in
    omega arith

-- a line has begun where a text doesn't end in an LF
inside_after_last : (text : Bytes) → inside_after false text ≡ not (is_lf (get_or text (length text - 1) 10))
inside_after_last [] = refl
inside_after_last (b ∷ []) = refl
inside_after_last (b ∷ c ∷ cs) = inside_after_last (c ∷ cs) ∙ (λ i. not (is_lf (get_or (b ∷ c ∷ cs) (place i) 10)))
  where
    place : suc (length (c ∷ cs) - 1) ≡ length (b ∷ c ∷ cs) - 1
    place = omega arith

-- a text has a line for each LF, and a last one where it doesn't end in an LF
pub line_count_last : (text : Bytes) → line_count text ≡ count_by is_lf text + cond (is_lf (get_or text (length text - 1) 10)) 0 1
line_count_last text =
    line_count_left text ∙ ap (lines_left false) (sym (append-nil text)) ∙ lines_left_append false text []
    ∙ ap (λ k. count_by is_lf text + k) (ap (λ t. cond t 1 0) (inside_after_last text) ∙ turned (is_lf (get_or text (length text - 1) 10)))
  where
    turned : (t : Bool) → ◌≡◌ {A = ℕ} (cond (not t) 1 0) (cond t 0 1)
    turned true = refl
    turned false = refl

-- the same by a place in the text
pub number_after_at : (n at : ℕ) (text : Bytes) → at < length text → number_after n text (drop at text) ≡ n + count_by is_lf (take at text)
number_after_at n at text lt =
    let b = get_or text at 0 in
    let more = drop (at + 1) text in
    let split : drop at text ≡ b ∷ more = drop_more text at 0 lt in
    (λ i. number_after n (sym (take-append-drop at text) i) (drop at text))
    ∙ (λ i. number_after n (take at text ++ split i) (split i))
    ∙ number_after_some n b (take at text) more

-- no rest of a text has more lines
pub line_count_rest : (before rest : Bytes) → line_count rest ≤ line_count (before ++ rest)
line_count_rest before [] = omega arith
line_count_rest before (b ∷ rest) =
    let whole = line_count_left (before ++ b ∷ rest) in
    let parts = lines_left_append false before (b ∷ rest) in
    let same = lines_left_some (inside_after false before) b rest in
    omega arith

pub line_count_end : (text before rest : Bytes) → text ≡ before ++ rest → line_count rest ≤ line_count text
line_count_end text before rest is = subst (λ (l : Bytes). line_count rest ≤ line_count l) (sym is) (line_count_rest before rest)

-- without the LF that it may begin with a text has no more lines either
pub line_count_skip_lf : (text : Bytes) → line_count (skip_lf text) ≤ line_count text
line_count_skip_lf [] = omega arith
line_count_skip_lf (b ∷ bs) = go (is_lf b) (lines_left_some false b bs)
  where
    go : (t : Bool) → cond t (1 + lines_left false bs) (lines_left true bs) ≡ line_count (b ∷ bs) → line_count (cond t bs (b ∷ bs)) ≤ line_count (b ∷ bs)
    go true e = let more = line_count_left bs in omega arith
    go false e = omega arith

-- bytes of a line that has begun
lines_left_plain : (front rest : Bytes) → has_no_lf front ≡ true → lines_left true (front ++ rest) ≡ lines_left true rest
lines_left_plain [] rest h = refl
lines_left_plain (b ∷ bs) rest h =
    let p = and_parts (not (is_lf b)) (has_no_lf bs) h in
    cond-false (is_lf b) (1 + lines_left false (bs ++ rest)) (lines_left true (bs ++ rest)) (not-true (is_lf b) p.0) ∙ lines_left_plain bs rest p.1

-- a line and its LF
whole_line_is_one : (line rest : Bytes) → has_no_lf line ≡ true → lines_left false (line ++ 10 ∷ rest) ≡ 1 + lines_left false rest
whole_line_is_one [] rest h = refl
whole_line_is_one (b ∷ bs) rest h = lines_left_plain (b ∷ bs) (10 ∷ rest) h

-- a line is one line
pub line_is_one : (text line rest : Bytes) → IsLine text line rest → line_count text ≡ 1 + line_count rest
line_is_one text line rest (plain, inl e) =
    ap line_count e ∙ line_count_left (line ++ 10 ∷ rest) ∙ whole_line_is_one line rest plain ∙ ap (λ n. 1 + n) (sym (line_count_left rest))
line_is_one text [] rest (plain, inr e) = let some : 1 ≤ 0 = e.2 in absurd (omega arith)
line_is_one text (b ∷ bs) rest (plain, inr e) =
    ap line_count e.0 ∙ sym (lines_left_some true b bs)
    ∙ ap (lines_left true) (sym (append-nil (b ∷ bs))) ∙ lines_left_plain (b ∷ bs) [] plain
    ∙ ap (λ (l : Bytes). 1 + line_count l) (sym e.1)

-- after a line is the next one
pub number_after_line : (n : ℕ) (text line rest : Bytes) → IsLine text line rest → number_after n text rest ≡ n + 1
number_after_line n text line rest is = let one = line_is_one text line rest is in omega arith
