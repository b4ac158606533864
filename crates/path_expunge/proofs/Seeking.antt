-- Looking through matchers one after another, and paths below others byte by byte.
use Rattle.std.proofs.Common.{◌≡◌, ◌∙◌, ℕ, zero, suc, ◌≤◌, ◌<◌, Bool, true, false, List, [], ◌∷◌, length, drop, map, get_or, refl, sym, ap, arith, eqb-true, true≢false}
use Rattle.std.specs.Cmp.Lexicographic.{pointwise}
use Rattle.std.specs.Prelude.{◌&&◌, ◌||◌, ◌==◌}
use Rattle.std.proofs.lemmas.Bool.{and_parts}
use Rattle.plain_model.specs.contracts.id.CommitIdPartialEq.TheImpl.{eq-value}
use Rattle.plain_model.specs.Parts.{begins}
use Rattle.plain_model.specs.Paths.{Bytes, begins_with_slash, is_below}
use Rattle.path_expunge.specs.declared.matching.PathTest.{PathTest}
use Rattle.expunge_laws.specs.Matching.{matched_by, matches}
use Rattle.path_expunge.specs.Tests.{sought}

-- the first of the rest, and then what is after it
pub seek : (tests : List PathTest) (k : ℕ) (x : PathTest) (p : Bytes) → k < length tests → x ≡ get_or tests k x →
    matched_by (drop k (map sought tests)) p ≡ matches (sought x) p || matched_by (drop (suc k) (map sought tests)) p
seek [] k x p low is = absurd (omega arith)
seek (y ∷ ys) zero x p low is = ap (λ z. matches (sought z) p || matched_by (map sought ys) p) (sym is)
seek (y ∷ ys) (suc k) x p low is = seek ys k x p (omega arith) is

pub below_parts : (p q : Bytes) → is_below p q ≡ begins p q && begins_with_slash (drop (length p) q)
below_parts [] q = refl
below_parts (a ∷ p) [] = refl
below_parts (a ∷ p) (b ∷ q) = go (a == b) (below_parts p q)
  where
    go : (t : Bool) → is_below p q ≡ begins p q && begins_with_slash (drop (length p) q) →
        t && is_below p q ≡ (t && begins p q) && begins_with_slash (drop (length p) q)
    go true h = h
    go false h = refl

pub none_slash : (bytes : Bytes) → length bytes < 1 → begins_with_slash bytes ≡ false
none_slash [] h = refl
none_slash (b ∷ bs) h = absurd (omega arith)

pub first_slash : (bytes : Bytes) → 1 ≤ length bytes → (get_or bytes 0 0 == 47) ≡ begins_with_slash bytes
first_slash [] h = absurd (omega arith)
first_slash (b ∷ bs) h = refl

-- parents that are equal one by one
pub same_commits : (xs ys : List ℕ) → pointwise eq-value.it xs ys ≡ true → xs ≡ ys
same_commits [] [] h = refl
same_commits [] (y ∷ ys) h = absurd (true≢false (sym h))
same_commits (x ∷ xs) [] h = absurd (true≢false (sym h))
same_commits (x ∷ xs) (y ∷ ys) h =
    let parts = and_parts (eq-value.it x y) (pointwise eq-value.it xs ys) h in
    ap (λ z. z ∷ xs) (eqb-true x y parts.0) ∙ ap (λ (l : List ℕ). y ∷ l) (same_commits xs ys parts.1)
