-- Paths, as lists of bytes, and when two of them conflict (git-fast-import, `<path>`).
use Rattle.std.specs.Prelude.{◌≡◌, ℕ, Bool, true, false, ◌==◌, ◌&&◌, ◌||◌, nat_lt, List, [], ◌∷◌, length, Option, Some, None, bytes_eq, if◌then◌else◌}
use Rattle.std.specs.List.{list_any, slice_split}
use Rattle.plain_model.specs.declared.limit.TheConstants.{MAX_PATH_BYTES}
use Rattle.plain_model.specs.declared.path.PathFault.{PathFault}
use Rattle.plain_model.specs.declared.path.PathFault.TheVariants.{Empty, TooLong, Slash, Dots, Nul}

-- a text: bytes, each below 256
abbrev pub Bytes : Type 0
Bytes = List ℕ

-- ---- what a path is

abbrev pub is_empty : Bytes → Bool
is_empty [] = true
is_empty (b ∷ bs) = false

-- the parts between the slashes
abbrev pub components : Bytes → List Bytes
components bytes = slice_split (λ b. b == 47) bytes

-- `.` or `..`
abbrev pub is_dots : Bytes → Bool
is_dots (a ∷ []) = a == 46
is_dots (a ∷ b ∷ []) = (a == 46) && (b == 46)
is_dots other = false

-- the first rule that the bytes break
abbrev pub path_fault : Bytes → Option PathFault
path_fault bytes =
    if is_empty bytes then Some Empty
    else if nat_lt MAX_PATH_BYTES (length bytes) then Some TooLong
    else if list_any is_empty (components bytes) then Some Slash
    else if list_any is_dots (components bytes) then Some Dots
    else if list_any (λ b. b == 0) bytes then Some Nul
    else None

-- no rule is broken
abbrev pub IsPath : Bytes → Type 0
IsPath bytes = path_fault bytes ≡ None

-- ---- how paths relate

-- the bytes begin with a slash
abbrev pub begins_with_slash : Bytes → Bool
begins_with_slash [] = false
begins_with_slash (b ∷ bs) = b == 47

-- the second path is the first with a slash and more after it
abbrev pub is_below : Bytes → Bytes → Bool
is_below [] q = begins_with_slash q
is_below (b ∷ p) [] = false
is_below (b ∷ p) (c ∷ q) = (b == c) && is_below p q

-- the second path is the first, or below it
abbrev pub is_at_or_below : Bytes → Bytes → Bool
is_at_or_below p q = bytes_eq p q || is_below p q

-- no tree has both: one of them would be a file and a folder
abbrev pub do_conflict : Bytes → Bytes → Bool
do_conflict p q = is_below p q || is_below q p

-- what has to go where a file is put: the path itself, and what conflicts with it
abbrev pub is_in_the_way : Bytes → Bytes → Bool
is_in_the_way p q = bytes_eq p q || do_conflict p q
