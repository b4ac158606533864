-- The name of a repository, which comes from that of its file, and the names that a script gives. (reposurgeon manual, `read`, `define`; the
-- length and the bytes: own)
use Rattle.std.specs.Prelude.{ℕ, ◌-◌, ◌==◌, ◌&&◌, ◌||◌, nat_le, nat_lt, Bool, false, [], ◌∷◌, length, take, drop, bytes_eq, codes, if◌then◌else◌}
use Rattle.std.specs.List.{list_any, list_all}
use Rattle.plain_model.specs.Names.{is_name_byte}
use Rattle.plain_model.specs.Numbers.{is_digit}
use Rattle.plain_model.specs.Paths.{Bytes}
use Rattle.plain_model.specs.declared.limit.TheConstants.{MAX_REPOSITORY_NAME_BYTES}

-- what is after the last slash: as long as there is one, the first byte goes
abbrev pub last_part : Bytes → Bytes
last_part [] = []
last_part (b ∷ bs) = if list_any (λ c. c == 47) (b ∷ bs) then last_part bs else b ∷ bs

-- without one `.fi` at the end, where something remains
abbrev pub without_fi : Bytes → Bytes
without_fi part =
    if nat_lt 3 (length part) && bytes_eq (drop (length part - 3) part) (codes ".fi") then take (length part - 3) part else part

-- the name of the repository of a file
unfoldable pub repo_name : Bytes → Bytes
repo_name file = without_fi (last_part file)

-- 1 to 255 bytes, none of them a space, a control code or DEL
unfoldable pub is_repo_name : Bytes → Bool
is_repo_name name = nat_le 1 (length name) && nat_le (length name) MAX_REPOSITORY_NAME_BYTES && list_all is_name_byte name

-- ---- names that a script gives

abbrev pub is_letter : ℕ → Bool
is_letter b = (nat_le 65 b && nat_le b 90) || (nat_le 97 b && nat_le b 122)

-- a letter, a digit, `_` or `-`
abbrev pub is_name_part : ℕ → Bool
is_name_part b = is_letter b || is_digit b || b == 95 || b == 45

-- the name of a macro, or of a list of events: a letter is first
unfoldable pub is_given_name : Bytes → Bool
is_given_name [] = false
is_given_name (b ∷ bs) = is_letter b && list_all is_name_part bs
