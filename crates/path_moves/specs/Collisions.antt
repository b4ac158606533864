-- Paths that are in each other's way. (own)
use Rattle.std.specs.Prelude.{Bool, ◌||◌, true, List, length, filter, nat_lt, bytes_eq, Option, Some, None, IsFalse, IsTrue}
use Rattle.std.specs.List.{AllByRecursion, list_any}
use Rattle.std.specs.Ordering.{is_lt, nat_cmp}
use Rattle.std.specs.Cmp.Lexicographic.{slice_cmp}
use Rattle.plain_model.specs.Paths.{Bytes, do_conflict}

-- two of the paths are this one, or one conflicts with it
abbrev pub collides_in : List Bytes → Bytes → Bool
collides_in paths q = nat_lt 1 (length (filter (λ p. bytes_eq p q) paths)) || list_any (do_conflict q) paths

-- the path comes before the other one in byte order, if there is one
abbrev pub is_before : Bytes → Option Bytes → Bool
is_before p None = true
is_before p (Some q) = is_lt (slice_cmp nat_cmp p q)

-- of those looked at the first in byte order that collides with others, if one does
abbrev pub IsLeast : List Bytes → List Bytes → Option Bytes → Type 0
IsLeast paths looked None = AllByRecursion (λ p. IsFalse (collides_in paths p)) looked
IsLeast paths looked (Some q) =
    IsTrue (list_any (λ p. bytes_eq p q) looked) × IsTrue (collides_in paths q)
    × AllByRecursion (λ p. IsTrue (is_lt (slice_cmp nat_cmp p q)) → IsFalse (collides_in paths p)) looked
