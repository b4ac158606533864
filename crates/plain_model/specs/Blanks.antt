-- Blanks, which part the words of a line. (own)
use Rattle.std.specs.Prelude.{ℕ, ◌==◌, ◌||◌, Bool}

-- a space or a tab
abbrev pub is_blank : ℕ → Bool
is_blank b = b == 32 || b == 9
