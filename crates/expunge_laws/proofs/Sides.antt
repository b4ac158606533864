-- What conflicts with a path in a tree is one file above it, or below it.
use Rattle.std.proofs.Common.{◌≡◌, true, [], ◌∷◌, refl, sym, ◌∙◌, inl, inr, ◌⊎◌, eqb-true, eq-eqb, true≢false}
use Rattle.std.specs.Prelude.{◌&&◌, ◌==◌}
use Rattle.std.proofs.lemmas.Bool.{and_from, and_parts, or_cases, or_left, or_right}
use Rattle.plain_model.specs.Paths.{Bytes, do_conflict, is_below}
use Rattle.plain_model.specs.Trees.{IsTree, Tree, has}

-- two paths above a third one are the same, or one is below the other
one_above : (q r p : Bytes) → is_below q p ≡ true → is_below r p ≡ true → (q ≡ r) ⊎ (do_conflict q r ≡ true)
one_above [] [] p x y = inl refl
one_above [] (c ∷ r) [] x y = absurd (true≢false (sym x))
one_above [] (c ∷ r) (d ∷ p) x y =
    let parts = and_parts (c == d) (is_below r p) y in
    inr (or_left (c == 47) (is_below (c ∷ r) []) (eq-eqb c 47 (eqb-true c d parts.0 ∙ eqb-true d 47 x)))
one_above (b ∷ q) [] [] x y = absurd (true≢false (sym y))
one_above (b ∷ q) [] (d ∷ p) x y =
    let parts = and_parts (b == d) (is_below q p) x in
    inr (or_right (is_below (b ∷ q) []) (b == 47) (eq-eqb b 47 (eqb-true b d parts.0 ∙ eqb-true d 47 y)))
one_above (b ∷ q) (c ∷ r) [] x y = absurd (true≢false (sym x))
one_above (b ∷ q) (c ∷ r) (d ∷ p) x y =
    let first = and_parts (b == d) (is_below q p) x in
    let second = and_parts (c == d) (is_below r p) y in
    let same : b ≡ c = eqb-true b d first.0 ∙ sym (eqb-true c d second.0) in
    elim (one_above q r p first.1 second.1) [
      | inl is ↦ inl (λ i. same i ∷ is i)
      | inr conflict ↦ elim (or_cases (is_below q r) (is_below r q) conflict) [
        | inl below ↦ inr (or_left ((b == c) && is_below q r) ((c == b) && is_below r q) (and_from (b == c) (is_below q r) (eq-eqb b c same) below))
        | inr above ↦ inr (or_right ((b == c) && is_below q r) ((c == b) && is_below r q) (and_from (c == b) (is_below r q) (eq-eqb c b (sym same)) above))
      ]
    ]

-- what is below a path is below whatever that is below
below_both : (q p r : Bytes) → is_below q p ≡ true → is_below p r ≡ true → is_below q r ≡ true
below_both [] [] r x y = absurd (true≢false (sym x))
below_both [] (c ∷ p) [] x y = absurd (true≢false (sym y))
below_both [] (c ∷ p) (d ∷ r) x y =
    let parts = and_parts (c == d) (is_below p r) y in
    eq-eqb d 47 (sym (eqb-true c d parts.0) ∙ eqb-true c 47 x)
below_both (b ∷ q) [] r x y = absurd (true≢false (sym x))
below_both (b ∷ q) (c ∷ p) [] x y = absurd (true≢false (sym y))
below_both (b ∷ q) (c ∷ p) (d ∷ r) x y =
    let first = and_parts (b == c) (is_below q p) x in
    let second = and_parts (c == d) (is_below p r) y in
    and_from (b == d) (is_below q r) (eq-eqb b d (eqb-true b c first.0 ∙ eqb-true c d second.0)) (below_both q p r first.1 second.1)

-- a file above a path is all that conflicts with the path
pub one_side : (tree : Tree) (path above other : Bytes) → IsTree tree → has tree above ≡ true → is_below above path ≡ true →
    has tree other ≡ true → do_conflict path other ≡ true → other ≡ above
one_side tree path above other t here is there conflict =
    elim (or_cases (is_below path other) (is_below other path) conflict) [
      | inl below ↦ absurd (true≢false (sym (or_left (is_below above other) (is_below other above) (below_both above path other is below)) ∙ t.apart above other here there))
      | inr too ↦ elim (one_above other above path too is) [
        | inl same ↦ same
        | inr clash ↦ absurd (true≢false (sym clash ∙ t.apart other above there here))
      ]
    ]
