-- What is promised of calls that build patterns on the way: what is prescribed where none of the patterns that the grammar reads is
-- refused, or one of them, which was counted if it was refused for its size.
use Rattle.std.specs.Prelude.{ℕ, List, Option}
use Rattle.std.specs.List.{AllByRecursion}
use Rattle.byte_patterns.specs.Judging.{Counted, Denial}

-- that holds under some denial, or under none
abbrev pub Under : ℕ → ℕ → (Option Denial → Type 0) → Type 0
Under before now P = (denial : Option Denial) × Counted before now denial × P denial

-- that holds under some denials, one command after another
abbrev pub UnderAll : ℕ → ℕ → (List (Option Denial) → Type 0) → Type 0
UnderAll before now P = (denials : List (Option Denial)) × AllByRecursion (Counted before now) denials × P denials
