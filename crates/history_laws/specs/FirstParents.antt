-- The line of first parents, from a commit down to its root.
use Rattle.std.specs.Prelude.{ℕ, ◌==◌, List, [], ◌∷◌, ◌++◌, flat_map, if◌then◌else◌}
use Rattle.plain_model.specs.declared.operation.FileOp.{FileOp}
use Rattle.plain_model.specs.Histories.{Node, Past}

-- the first of these commits, its first parent, the first parent of that one and so on, the oldest first
abbrev pub line_from : Past → List ℕ → List Node
line_from [] commits = []
line_from (n ∷ older) [] = []
line_from (n ∷ older) (c ∷ commits) =
    if n.id == c then line_from older n.parents ++ n ∷ [] else line_from older (c ∷ commits)

-- the line that ends in one commit
abbrev pub first_line : Past → ℕ → List Node
first_line past c = line_from past (c ∷ [])

-- the operations of some commits, in order
abbrev pub ops_along : List Node → List FileOp
ops_along commits = flat_map (λ n. n.ops) commits
