-- Lines and words: they are cut off exactly where the text has them.
use Rattle.std.proofs.Common.{◌≡◌, inl, inr, ℕ, suc, ◌+◌, ◌≤◌, Bool, true, false, cond, not, ltb, [], ◌∷◌, ◌++◌, length, take, drop, get_or, Option, Some, None, refl, sym, ap, subst, ◌∙◌, arith, eqb-true, eq-eqb, lt-ltb, le-ltb, length-append, take_at, drop_at, drop-drop}
use Rattle.std.specs.Prelude.{◌==◌, ◌&&◌, nat_eq}
use Rattle.std.specs.Cmp.Lexicographic.{pointwise, same_text}
use Rattle.std.specs.List.{list_all, position, prefix_len}
use Rattle.std.proofs.lemmas.Bool.{and_parts, and_from, cond-true, cond-false, ltb-false}
use Rattle.std.proofs.lemmas.List.{take-append-drop, drop_more, take_all}
use Rattle.std.proofs.lemmas.List.Quantifiers.{position-Some}
use Rattle.std.proofs.lemmas.Option.{none-some, cond_some, some_pair_parts}
use Rattle.plain_model.specs.Paths.{Bytes}
use Rattle.plain_model.specs.Parts.{IsLine, begins}
use Rattle.plain_model.specs.Parts.{cut_parts, cut_at, is_lf, line_cut, line_at, rest_after}
use Rattle.plain_model.proofs.Numbers.{eqb_turned}

-- ---- the first byte that passes a test

-- what is before it doesn't pass
before_first : (q : ℕ → Bool) (xs : Bytes) → list_all q (take (prefix_len q xs) xs) ≡ true
before_first q [] = refl
before_first q (x ∷ xs) = go (q x) refl (before_first q xs)
  where
    one_more : (n : ℕ) → suc n ≡ 1 + n
    one_more n = omega arith

    go : (t : Bool) → q x ≡ t → list_all q (take (prefix_len q xs) xs) ≡ true → list_all q (take (cond t (1 + prefix_len q xs) 0) (x ∷ xs)) ≡ true
    go true e h = subst (λ k. list_all q (take k (x ∷ xs)) ≡ true) (one_more (prefix_len q xs)) (and_from (q x) (list_all q (take (prefix_len q xs) xs)) e h)
    go false e h = refl

-- so many bytes before it, where they are all of the bytes before it
first_after : (q : ℕ → Bool) (xs : Bytes) (y : ℕ) (rest : Bytes) → list_all q xs ≡ true → q y ≡ false → prefix_len q (xs ++ y ∷ rest) ≡ length xs
first_after q [] y rest h e = cond-false (q y) (1 + prefix_len q rest) 0 e
first_after q (x ∷ xs) y rest h e =
    let parts = and_parts (q x) (list_all q xs) h in
    let more = first_after q xs y rest parts.1 e in
    cond-true (q x) (1 + prefix_len q (xs ++ y ∷ rest)) 0 parts.0 ∙ (omega (arith, more))

no_first : (q : ℕ → Bool) (xs : Bytes) → list_all q xs ≡ true → prefix_len q xs ≡ length xs
no_first q [] h = refl
no_first q (x ∷ xs) h =
    let parts = and_parts (q x) (list_all q xs) h in
    let more = no_first q xs parts.1 in
    cond-true (q x) (1 + prefix_len q xs) 0 parts.0 ∙ (omega (arith, more))

module _ (p : ℕ → Bool) where
  pub position_is : (xs : Bytes) (i : ℕ) → position p xs ≡ Some i → (list_all (λ x. not (p x)) (take i xs) ≡ true) × (p (get_or xs i 0) ≡ true) × (xs ≡ take i xs ++ get_or xs i 0 ∷ drop (i + 1) xs)
  position_is xs i e =
      let there = position-Some p xs i 0 e in
      let q = λ (x : ℕ). not (p x) in
      let is = cond_some (ltb (prefix_len q xs) (length xs)) (prefix_len q xs) i e in (
        subst (λ k. list_all q (take k xs) ≡ true) is.1 (before_first q xs),
        there.1,
        sym (take-append-drop i xs) ∙ ap (λ (t : Bytes). take i xs ++ t) (drop_more xs i 0 there.0),
      )

  pub position_none : (xs : Bytes) → position p xs ≡ None → list_all (λ x. not (p x)) xs ≡ true
  position_none xs e = go (ltb (prefix_len q xs) (length xs)) refl e
    where
      q : ℕ → Bool
      q x = not (p x)

      go : (t : Bool) → ltb (prefix_len q xs) (length xs) ≡ t → cond t (Some (prefix_len q xs)) None ≡ None → list_all q xs ≡ true
      go true f h = absurd (none-some (prefix_len q xs) (sym h))
      go false f h = subst (λ (l : Bytes). list_all q l ≡ true) (take_all (prefix_len q xs) xs (ltb-false (prefix_len q xs) (length xs) f)) (before_first q xs)

  position_at : (xs : Bytes) (y : ℕ) (rest : Bytes) → list_all (λ x. not (p x)) xs ≡ true → p y ≡ true → position p (xs ++ y ∷ rest) ≡ Some (length xs)
  position_at xs y rest h e =
      let text = xs ++ y ∷ rest in
      ap (λ n. cond (ltb n (length text)) (Some n) None) (first_after (λ x. not (p x)) xs y rest h (ap not e))
      ∙ cond-true (ltb (length xs) (length text)) (Some (length xs)) None (lt-ltb (length xs) (length text) (omega (arith, length-append xs (y ∷ rest))))

  position_not : (xs : Bytes) → list_all (λ x. not (p x)) xs ≡ true → position p xs ≡ None
  position_not xs h =
      ap (λ n. cond (ltb n (length xs)) (Some n) None) (no_first (λ x. not (p x)) xs h)
      ∙ cond-false (ltb (length xs) (length xs)) (Some (length xs)) None (le-ltb (length xs) (length xs) (omega arith))

drop_past : (xs : Bytes) (y : ℕ) (rest : Bytes) → drop (length xs + 1) (xs ++ y ∷ rest) ≡ rest
drop_past xs y rest = sym (drop-drop 1 (length xs) (xs ++ y ∷ rest)) ∙ ap (drop 1) (drop_at xs (y ∷ rest) (length xs) refl)

-- ---- what is before and after a byte

-- the text is cut at its first such byte
pub cut_is : (b : ℕ) (text x y : Bytes) → cut_at b text ≡ Some (x, y) → (list_all (λ c. not (c == b)) x ≡ true) × (text ≡ x ++ b ∷ y)
unfolding cut_at
cut_is b text x y e = go (position (λ c. c == b) text) refl e
  where
    go : (o : Option ℕ) → position (λ c. c == b) text ≡ o → cut_parts text o ≡ Some (x, y) → (list_all (λ c. not (c == b)) x ≡ true) × (text ≡ x ++ b ∷ y)
    go None f h = absurd (none-some {A = Bytes × Bytes} (x, y) h)
    go (Some i) f h =
        let pair = some_pair_parts (take i text) x (drop (i + 1) text) y h in
        let parts = position_is (λ c. c == b) text i f in (
          subst (λ (l : Bytes). list_all (λ c. not (c == b)) l ≡ true) pair.0 parts.0,
          parts.2 ∙ (λ j. pair.0 j ++ eqb-true (get_or text i 0) b parts.1 j ∷ pair.1 j),
        )

pub cut_read : (b : ℕ) (x y : Bytes) → list_all (λ c. not (c == b)) x ≡ true → cut_at b (x ++ b ∷ y) ≡ Some (x, y)
unfolding cut_at
cut_read b x y h =
    ap (cut_parts (x ++ b ∷ y)) (position_at (λ c. c == b) x b y h (eq-eqb b b refl))
    ∙ (λ j. Some (take_at x (b ∷ y) (length x) refl j, drop_past x b y j))

-- where the text isn't cut, no byte is such
pub cut_none : (b : ℕ) (text : Bytes) → cut_at b text ≡ None → list_all (λ c. not (c == b)) text ≡ true
unfolding cut_at
cut_none b text e = go (position (λ c. c == b) text) refl e
  where
    go : (o : Option ℕ) → position (λ c. c == b) text ≡ o → cut_parts text o ≡ None → list_all (λ c. not (c == b)) text ≡ true
    go None f h = position_none (λ c. c == b) text f
    go (Some i) f h = absurd (none-some {A = Bytes × Bytes} (take i text, drop (i + 1) text) (sym h))

-- ---- lines

line_cut_off : (text : Bytes) → 1 ≤ length text → line_at text ≡ Some (line_cut text (position is_lf text))
unfolding line_at
line_cut_off [] h = absurd (omega arith)
line_cut_off (b ∷ bs) h = refl

pub line_read : (text line rest : Bytes) → IsLine text line rest → line_at text ≡ Some (line, rest)
line_read text line rest (plain, inl e) =
    ap line_at e
    ∙ line_cut_off (line ++ 10 ∷ rest) (omega (arith, length-append line (10 ∷ rest)))
    ∙ ap (λ o. Some (line_cut (line ++ 10 ∷ rest) o)) (position_at is_lf line 10 rest plain refl)
    ∙ (λ j. Some (take_at line (10 ∷ rest) (length line) refl j, drop_past line 10 rest j))
line_read text line rest (plain, inr e) =
    ap line_at e.0
    ∙ line_cut_off line e.2
    ∙ ap (λ o. Some (line_cut line o)) (position_not is_lf line plain)
    ∙ ap (λ (r : Bytes). Some (line, r)) (sym e.1)

-- ---- words

pub after_is : (word text rest : Bytes) → rest_after word text ≡ Some rest → text ≡ word ++ rest
unfolding rest_after
after_is word text rest e =
    let c = cond_some (pointwise nat_eq (take (length word) text) word) (drop (length word) text) rest e in
    sym (take-append-drop (length word) text) ∙ (λ j. same_text (take (length word) text) word (sym c.0) j ++ c.1 j)

begins_same : (word text : Bytes) → pointwise nat_eq (take (length word) text) word ≡ begins word text
begins_same [] text = refl
begins_same (w ∷ word) [] = refl
begins_same (w ∷ word) (b ∷ text) = λ j. eqb_turned b w j && begins_same word text j

begins_own : (word rest : Bytes) → begins word (word ++ rest) ≡ true
begins_own [] rest = refl
begins_own (w ∷ word) rest = and_from (w == w) (begins word (word ++ rest)) (eq-eqb w w refl) (begins_own word rest)

pub after_read : (word rest : Bytes) → rest_after word (word ++ rest) ≡ Some rest
unfolding rest_after
after_read word rest =
    let text = word ++ rest in
    cond-true (pointwise nat_eq (take (length word) text) word) (Some (drop (length word) text)) None
    (begins_same word text ∙ begins_own word rest)
    ∙ ap (λ (r : Bytes). Some r) (drop_at word rest (length word) refl)

-- ---- an LF that may follow
