-- What conflicts with a path that was moved.
use Rattle.std.proofs.Common.{◌≡◌, ℕ, true, false, [], ◌∷◌, ◌++◌, length, drop, refl, sym, ap, ◌∙◌, inl, inr, eqb-true, eq-eqb, true≢false, bytes_eq}
use Rattle.std.specs.Prelude.{◌&&◌, ◌||◌, ◌==◌}
use Rattle.std.proofs.lemmas.Bool.{and_parts, or_cases, or_left, or_right, or_from, false_from_ne_true}
use Rattle.plain_model.specs.Paths.{Bytes, is_below, is_at_or_below, do_conflict, is_in_the_way}

-- what may be after a path that is moved: nothing, or a slash and more
abbrev pub IsRest : Bytes → Type 0
IsRest [] = Unit {0}
IsRest (b ∷ r) = (b == 47) ≡ true

-- a byte is equal to itself
same_byte : (b : ℕ) → (b == b) ≡ true
same_byte b = eq-eqb b b refl

-- equality of bytes, turned round
turned : (b c : ℕ) → (b == c) ≡ true → (c == b) ≡ true
turned b c e = eq-eqb c b (sym (eqb-true b c e))

-- what both paths begin with does not count
pub below_after : (t r q : Bytes) → is_below (t ++ r) (t ++ q) ≡ is_below r q
below_after [] r q = refl
below_after (b ∷ t) r q = ap (λ x. x && is_below (t ++ r) (t ++ q)) (same_byte b) ∙ below_after t r q

-- no path is below itself
pub not_below_itself : (p : Bytes) → is_below p p ≡ false
not_below_itself [] = refl
not_below_itself (b ∷ p) = ap (λ x. x && is_below p p) (same_byte b) ∙ not_below_itself p

-- one more equal byte in front
step_in_the_way : (b c : ℕ) (t q : Bytes) → (b == c) ≡ true → is_in_the_way t q ≡ true → is_in_the_way (b ∷ t) (c ∷ q) ≡ true
step_in_the_way b c t q e h =
    ap (λ x. (x && bytes_eq t q) || ((x && is_below t q) || ((c == b) && is_below q t))) e
    ∙ ap (λ x. bytes_eq t q || (is_below t q || (x && is_below q t))) (turned b c e) ∙ h

-- what is below the target is in its way
way_above : (t q : Bytes) → is_below t q ≡ true → is_in_the_way t q ≡ true
way_above t q h = or_right (bytes_eq t q) (do_conflict t q) (or_left (is_below t q) (is_below q t) h)

-- and what is above it
way_below : (t q : Bytes) → is_below q t ≡ true → is_in_the_way t q ≡ true
way_below t q h = or_right (bytes_eq t q) (do_conflict t q) (or_right (is_below t q) (is_below q t) h)

-- what is above the moved path is in the way of the target
pub above_moved : (q t r : Bytes) → IsRest r → is_below q (t ++ r) ≡ true → is_in_the_way t q ≡ true
above_moved [] [] r s h = refl
above_moved [] (b ∷ t) r s h = way_below (b ∷ t) [] h
above_moved (b ∷ q) [] [] s h = absurd (true≢false (sym h))
above_moved (b ∷ q) [] (c ∷ r) s h = way_above [] (b ∷ q) (eq-eqb b 47 (eqb-true b c (and_parts (b == c) (is_below q r) h).0 ∙ eqb-true c 47 s))
above_moved (b ∷ q) (c ∷ t) r s h =
    let parts = and_parts (b == c) (is_below q (t ++ r)) h in
    step_in_the_way c b t q (turned b c parts.0) (above_moved q t r s parts.1)

-- and what is below it
pub below_moved : (q t r : Bytes) → IsRest r → is_below (t ++ r) q ≡ true → is_in_the_way t q ≡ true
below_moved q [] [] s h = way_above [] q h
below_moved [] [] (c ∷ r) s h = absurd (true≢false (sym h))
below_moved (b ∷ q) [] (c ∷ r) s h = way_above [] (b ∷ q) (eq-eqb b 47 (sym (eqb-true c b (and_parts (c == b) (is_below r q) h).0) ∙ eqb-true c 47 s))
below_moved [] (c ∷ t) r s h = absurd (true≢false (sym h))
below_moved (b ∷ q) (c ∷ t) r s h =
    let parts = and_parts (c == b) (is_below (t ++ r) q) h in
    step_in_the_way c b t q parts.0 (below_moved q t r s parts.1)

-- a path at or below another is that one and a rest
pub record After (s p : Bytes) : Type 0 where
  pub is : p ≡ s ++ drop (length s) p
  pub rest : IsRest (drop (length s) p)

-- a path at or below another is split at its end
pub after : (s p : Bytes) → is_at_or_below s p ≡ true → After s p
after [] [] h = record { is = refl; rest = tt }
after [] (c ∷ p) h = record { is = refl; rest = h }
after (b ∷ s) [] h = absurd (true≢false (sym h))
after (b ∷ s) (c ∷ p) h =
    elim (or_cases ((b == c) && bytes_eq s p) ((b == c) && is_below s p) h) [
      | inl same ↦ let parts = and_parts (b == c) (bytes_eq s p) same in go parts.0 (after s p (or_left (bytes_eq s p) (is_below s p) parts.1))
      | inr below ↦ let parts = and_parts (b == c) (is_below s p) below in go parts.0 (after s p (or_right (bytes_eq s p) (is_below s p) parts.1))
    ]
  where
    go : (b == c) ≡ true → After s p → After (b ∷ s) (c ∷ p)
    go e r = record { is = ap (λ x. x ∷ p) (sym (eqb-true b c e)) ∙ ap (λ x. b ∷ x) r.is; rest = r.rest }

-- neither is below the other
pub apart_from : (p q : Bytes) → (is_below p q ≡ true → ⊥) → (is_below q p ≡ true → ⊥) → do_conflict p q ≡ false
apart_from p q f g = or_from (is_below p q) (is_below q p) (false_from_ne_true (is_below p q) f) (false_from_ne_true (is_below q p) g)
