-- Paths below others, byte by byte.
use Rattle.std.proofs.Common.{◌≡◌, ◌∙◌, ℕ, zero, suc, ◌+◌, ◌≤◌, ◌<◌, Bool, true, false, [], ◌∷◌, length, drop, get_or, length-append, refl, ap, arith}
use Rattle.std.specs.Prelude.{◌&&◌, ◌==◌}
use Rattle.path_move_laws.proofs.MapLaws.{below_is}
use Rattle.history_laws.proofs.PathLaws.{after}
use Rattle.plain_model.specs.Parts.{begins}
use Rattle.plain_model.specs.Paths.{Bytes, begins_with_slash, is_at_or_below, is_below}

pub below_parts : (p q : Bytes) → is_below p q ≡ begins p q && begins_with_slash (drop (length p) q)
below_parts [] q = refl
below_parts (a ∷ p) [] = refl
below_parts (a ∷ p) (b ∷ q) = go (a == b) (below_parts p q)
  where
    go : (t : Bool) → is_below p q ≡ begins p q && begins_with_slash (drop (length p) q) →
        t && is_below p q ≡ (t && begins p q) && begins_with_slash (drop (length p) q)
    go true h = h
    go false h = refl

pub none_slash : (bytes : Bytes) → length bytes < 1 → begins_with_slash bytes ≡ false
none_slash [] h = refl
none_slash (b ∷ bs) h = absurd (omega arith)

pub first_slash : (bytes : Bytes) → 1 ≤ length bytes → (get_or bytes 0 0 == 47) ≡ begins_with_slash bytes
first_slash [] h = absurd (omega arith)
first_slash (b ∷ bs) h = refl

-- what is below is longer by a slash
pub longer_below : (d p : Bytes) → is_below d p ≡ true → length d + 1 ≤ length p
longer_below d p h =
    let is = ap length (below_is d p h) in
    let both = length-append d (47 ∷ drop 1 (drop (length d) p)) in
    omega arith

pub longer_at : (s p : Bytes) → is_at_or_below s p ≡ true → length s ≤ length p
longer_at s p h =
    let is = ap length (after s p h).is in
    let both = length-append s (drop (length s) p) in
    omega arith

-- a slash after a folder
pub drop_one_more : (n : ℕ) (p : Bytes) → drop (n + 1) p ≡ drop 1 (drop n p)
drop_one_more n p = ap (λ k. drop k p) (one_up n) ∙ go n p
  where
    one_up : (k : ℕ) → k + 1 ≡ suc k
    one_up k = omega arith

    go : (k : ℕ) (q : Bytes) → drop (suc k) q ≡ drop 1 (drop k q)
    go zero [] = refl
    go zero (b ∷ q) = refl
    go (suc k) [] = refl
    go (suc k) (b ∷ q) = go k q

pub not_second : (a b : Bool) → b ≡ false → a && b ≡ false
not_second true b h = h
not_second false b h = refl
