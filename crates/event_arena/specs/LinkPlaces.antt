-- Where a link is, by the number of links up to it. (own)
use Rattle.std.specs.Prelude.{ℕ, zero, suc, Option, Some, None}

-- the place of the last of so many links, if there are any
abbrev pub last_of : ℕ → Option ℕ
last_of zero = None
last_of (suc k) = Some k

-- how many links there are up to the one at a place
abbrev pub count_to : Option ℕ → ℕ
count_to None = zero
count_to (Some k) = suc k
