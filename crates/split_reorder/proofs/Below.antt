-- Whether a path is another one or above it, byte by byte; and operations that touch it.
use Rattle.std.proofs.Common.{◌≡◌, ◌≤◌, Bool, true, false, [], ◌∷◌, length, drop, get_or, refl, arith}
use Rattle.std.specs.Prelude.{◌&&◌, ◌||◌, ◌==◌, bytes_eq}
use Rattle.plain_model.specs.Parts.{begins}
use Rattle.plain_model.specs.Paths.{Bytes, is_at_or_below, is_below}

-- nothing, or a slash first
abbrev pub ends_or_slash : Bytes → Bool
ends_or_slash [] = true
ends_or_slash (b ∷ bs) = b == 47

pub at_or_below : (p q : Bytes) → is_at_or_below p q ≡ begins p q && ends_or_slash (drop (length p) q)
at_or_below [] [] = refl
at_or_below [] (b ∷ q) = refl
at_or_below (a ∷ p) [] = refl
at_or_below (a ∷ p) (b ∷ q) = go (a == b) (at_or_below p q)
  where
    go : (t : Bool) → bytes_eq p q || is_below p q ≡ begins p q && ends_or_slash (drop (length p) q) →
        (t && bytes_eq p q) || (t && is_below p q) ≡ (t && begins p q) && ends_or_slash (drop (length p) q)
    go true h = h
    go false h = refl

-- of what isn't empty the first byte tells it
pub first_slash : (bytes : Bytes) → 1 ≤ length bytes → (get_or bytes 0 0 == 47) ≡ ends_or_slash bytes
first_slash [] h = absurd (omega arith)
first_slash (b ∷ bs) h = refl
