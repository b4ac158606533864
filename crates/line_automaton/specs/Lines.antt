-- How many lines a text has, the numbers of its lines, what it answers from one of its lines on,
-- and how far the block goes after a line.
use Rattle.std.specs.Prelude.{ℕ, Bool, ◌+◌, ◌-◌, ◌≤◌, ◌||◌, [], ◌∷◌, length, drop, Option, Some, None, if◌then◌else◌}
use Rattle.plain_model.specs.Paths.{Bytes, is_empty}
use Rattle.plain_model.specs.Parts.{is_lf}
use Rattle.plain_model.specs.Fields.{Extent}
use Rattle.plain_model.specs.Fields.Extent.{Counted, Delimited}
use Rattle.line_automaton.specs.Machine.{Next, Automaton, Outcome, outcome_from}
use Rattle.line_automaton.specs.Machine.Next.{More, Block, Until, Over}
use Rattle.line_automaton.specs.Machine.Mode.{InLine}
use Rattle.line_automaton.specs.Machine.Machine.{At}

-- a line ends at each LF, and the last one at the end of the text
abbrev pub line_count : Bytes → ℕ
line_count [] = 0
line_count (b ∷ bs) = if is_lf b || is_empty bs then 1 + line_count bs else line_count bs

-- the number of the line with which a rest of a text begins, where the text begins with line n
abbrev pub number_after : ℕ → Bytes → Bytes → ℕ
number_after n text rest = n + (line_count text - line_count rest)

-- what a text answers from a line on: the rest that begins with it is read from this state
unfoldable pub outcome_at : {State Why : Type 0} → Automaton State Why → (ℕ → Bool) → Bytes → Bytes
    → State → Outcome State Why
outcome_at a judged text rest s =
    outcome_from a judged (At (number_after 1 text rest) (InLine []) s) rest

-- how far the block goes that follows a line, if one does
abbrev pub extent_after : Bytes → Next → Option Extent
extent_after line (Block k) = Some (Counted k)
extent_after line (Until k) = Some (Delimited (drop k line))
extent_after line More = None
extent_after line Over = None

-- a delimiter has a byte at least
abbrev pub HasDelimiter : Extent → Type 0
HasDelimiter (Counted k) = Unit {0}
HasDelimiter (Delimited delimiter) = 1 ≤ length delimiter
