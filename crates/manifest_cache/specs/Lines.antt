-- The line of first parents of a commit, back to its root. (own)
use Rattle.std.specs.Prelude.{ℕ, ◌==◌, List, [], ◌∷◌, ◌++◌, Option, Some, None, option_map, flat_map, length, if◌then◌else◌}
use Rattle.std.specs.Option.{option_map_or}
use Rattle.plain_model.specs.declared.operation.FileOp.{FileOp}
use Rattle.plain_model.specs.declared.event.PlainEvent.{PlainEvent}
use Rattle.plain_model.specs.Histories.{Past, past}

-- commits with their operations, the oldest first
abbrev pub Line : Type 0
Line = List (ℕ × List FileOp)

-- what a line has before a commit with these parents: the line of the first parent, or nothing
abbrev pub line_before : (ℕ → Option Line) → List ℕ → Option Line
line_before line_of [] = Some []
line_before line_of (p ∷ ps) = line_of p

abbrev pub line_in : Past → ℕ → Option Line
line_in [] c = None
line_in (n ∷ older) c =
    if n.id == c then option_map (λ line. line ++ (n.id, n.ops) ∷ []) (line_before (line_in older) n.parents) else line_in older c

-- the root, and so on by first parents to the commit itself; none where a first parent isn't an earlier commit
abbrev pub line : List PlainEvent → ℕ → Option Line
line events c = line_in (past events) c

-- the operations of a line, in order
abbrev pub ops_of : Line → List FileOp
ops_of commits = flat_map (λ c. c.1) commits

-- how many commits a line has, if there is one
abbrev pub size : Option Line → ℕ
size o = option_map_or (λ commits. length commits) o 0
