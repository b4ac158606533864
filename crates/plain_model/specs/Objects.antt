-- Object ids (git-fast-import, `<dataref>`).
use Rattle.std.specs.Prelude.{ℕ, Bool, ◌==◌, ◌&&◌, ◌||◌, not, nat_le, List, length, Option, Some, None, if◌then◌else◌}
use Rattle.std.specs.List.{list_all}

-- a lower-case hexadecimal digit
abbrev pub is_hex : ℕ → Bool
is_hex d = (nat_le 48 d && nat_le d 57) || (nat_le 97 d && nat_le d 102)

-- 40 such digits, not all of them zero
abbrev pub is_object : List ℕ → Bool
is_object digits = (length digits == 40) && list_all is_hex digits && not (list_all (λ d. d == 48) digits)

-- the digits, if they name an object
abbrev pub as_object : List ℕ → Option (List ℕ)
as_object digits = if is_object digits then Some digits else None
