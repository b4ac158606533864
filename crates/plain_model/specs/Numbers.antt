-- Numbers that are spelled in decimal digits. Leading zeros are read.
use Rattle.std.specs.Prelude.{◌≡◌, ℕ, ◌+◌, ◌-◌, ◌*◌, ◌/◌, ◌%◌, ◌≤◌, zero, suc, Bool, true, false, ◌&&◌, nat_le, nat_lt, List, [], ◌∷◌, ◌++◌, length, IsTrue}
use Rattle.std.specs.List.{list_all}

abbrev pub is_digit : ℕ → Bool
is_digit b = nat_le 48 b && nat_le b 57

-- the number that digits say after others, which say n
abbrev pub value_after : ℕ → List ℕ → ℕ
value_after n [] = n
value_after n (d ∷ ds) = value_after (10 * n + (d - 48)) ds

-- one or more digits that say the number
pub record IsNumeral (digits : List ℕ) (n : ℕ) : Type 0 where
  pub some : 1 ≤ length digits
  pub all : IsTrue (list_all is_digit digits)
  pub value : value_after 0 digits ≡ n

-- the digits of a number that has no more of them than so many
abbrev pub digits_within : ℕ → ℕ → List ℕ
digits_within zero n = []
digits_within (suc most) n = (elim (nat_lt n 10) [ true ↦ [] | false ↦ digits_within most (n / 10) ]) ++ (48 + n % 10) ∷ []

-- the digits that are written of a number, however great it is
unfoldable pub decimal_of : ℕ → List ℕ
decimal_of n = digits_within (suc n) n
