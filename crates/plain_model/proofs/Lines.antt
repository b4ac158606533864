-- The first line of a text: where it ends.
use Rattle.std.proofs.Common.{◌≡◌, ℕ, suc, ◌+◌, ◌<◌, Bool, true, false, cond, not, [], ◌∷◌, ◌++◌, length, take, drop, Some, None, refl, sym, ◌∙◌, ap, subst, inl, inr, arith, eqb-true}
use Rattle.std.specs.Prelude.{nat_lt}
use Rattle.std.specs.List.{position, prefix_len}
use Rattle.std.proofs.lemmas.Bool.{and_from, ltb-true, ltb-false}
use Rattle.std.proofs.lemmas.List.{take_all}
use Rattle.std.proofs.lemmas.Option.{same_Some, none-some}
use Rattle.plain_model.specs.Paths.{Bytes}
use Rattle.plain_model.specs.Parts.{IsLine, is_lf, has_no_lf, line_at, line_cut}

abbrev is_plain : ℕ → Bool
is_plain b = not (is_lf b)

-- before the first LF there is none
plain_front : (text : Bytes) → has_no_lf (take (prefix_len is_plain text) text) ≡ true
plain_front [] = refl
plain_front (b ∷ bs) = go (is_lf b) refl (plain_front bs)
  where
    go : (t : Bool) → is_lf b ≡ t → has_no_lf (take (prefix_len is_plain bs) bs) ≡ true
        → has_no_lf (take (cond (not t) (1 + prefix_len is_plain bs) 0) (b ∷ bs)) ≡ true
    go true e h = refl
    go false e h =
        let more : suc (prefix_len is_plain bs) ≡ 1 + prefix_len is_plain bs = omega arith in
        subst (λ k. has_no_lf (take k (b ∷ bs)) ≡ true) more (and_from (not (is_lf b)) (has_no_lf (take (prefix_len is_plain bs) bs)) (ap not e) h)

-- the text is cut at its first LF
first_lf : (text : Bytes) → prefix_len is_plain text < length text
    → text ≡ take (prefix_len is_plain text) text ++ 10 ∷ drop (prefix_len is_plain text + 1) text
first_lf [] h = absurd (omega arith)
first_lf (b ∷ bs) h = go (is_lf b) refl h (first_lf bs)
  where
    at : ℕ
    at = prefix_len is_plain bs

    go : (t : Bool) → is_lf b ≡ t → cond (not t) (1 + at) 0 < length (b ∷ bs) → (at < length bs → bs ≡ take at bs ++ 10 ∷ drop (at + 1) bs)
        → b ∷ bs ≡ take (cond (not t) (1 + at) 0) (b ∷ bs) ++ 10 ∷ drop (cond (not t) (1 + at) 0 + 1) (b ∷ bs)
    go true e h more = ap (λ c. c ∷ bs) (eqb-true b 10 e)
    go false e h more =
        let within : at < length bs = omega arith in
        let front : suc at ≡ 1 + at = omega arith in
        let after : suc (at + 1) ≡ 1 + at + 1 = omega arith in
        ap (λ (l : Bytes). b ∷ l) (more within) ∙ (λ i. take (front i) (b ∷ bs) ++ 10 ∷ drop (after i) (b ∷ bs))

-- the first line of a text is cut off
pub line_is : (text line rest : Bytes) → line_at text ≡ Some (line, rest) → IsLine text line rest
unfolding line_at
line_is [] line rest e = absurd (none-some {A = Bytes × Bytes} (line, rest) e)
line_is (b ∷ bs) line rest e =
    subst (λ (l : Bytes × Bytes). IsLine text l.0 l.1) (same_Some {A = Bytes × Bytes} (line_cut text (position is_lf text)) (line, rest) e)
    (go (nat_lt at (length text)) refl)
  where
    text : Bytes
    text = b ∷ bs

    at : ℕ
    at = prefix_len is_plain text

    go : (t : Bool) → nat_lt at (length text) ≡ t → (let l = line_cut text (cond t (Some at) None) in IsLine text l.0 l.1)
    go true f = (plain_front text, inl (first_lf text (ltb-true at (length text) f)))
    go false f =
        let all : take at text ≡ text = take_all at text (ltb-false at (length text) f) in
        (ap has_no_lf (sym all) ∙ plain_front text, inr (refl, refl, omega arith))
