-- Where a cursor is in a text.
use Rattle.std.specs.Prelude.{ℕ, ◌+◌, drop, take, count_by}
use Rattle.plain_model.specs.Paths.{Bytes}
use Rattle.plain_model.specs.Parts.{is_lf}

-- a place in a text, and the number of the line that was given last, or 0
pub record Position : Type 0 where
  pub text : Bytes
  pub at : ℕ
  pub number : ℕ

-- what is after the place
abbrev pub rest : Position → Bytes
rest p = drop p.at p.text

-- the number of the line that begins at a place: one more than the LFs that are before it
abbrev pub number_at : Bytes → ℕ → ℕ
number_at text at = 1 + count_by is_lf (take at text)
