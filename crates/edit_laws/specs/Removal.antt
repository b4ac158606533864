-- What stands for commits that are removed: among parents, along first parents, and for tags and resets of them
-- (reposurgeon manual, `squash`).
use Rattle.std.specs.Prelude.{ℕ, Bool, not, ◌==◌, List, [], ◌∷◌, ◌++◌, filter, flat_map, Option, Some, None, if◌then◌else◌}
use Rattle.std.specs.List.{list_any}
use Rattle.plain_model.specs.Histories.{Node, Past}

-- repeats dropped after their first place
abbrev pub once_each : List ℕ → List ℕ
once_each [] = []
once_each (x ∷ xs) = x ∷ filter (λ y. not (y == x)) (once_each xs)

module _ (removed : ℕ → Bool) where
  -- a commit that stays stands for itself, a removed one for what its parents stand for, in order
  abbrev pub expand : Past → ℕ → List ℕ
  expand [] c = c ∷ []
  expand (n ∷ older) c =
      if n.id == c then (if removed c then once_each (flat_map (expand older) n.parents) else c ∷ [])
      else expand older c

  -- what these parents stand for
  abbrev pub expand_all : Past → List ℕ → List ℕ
  expand_all past parents = once_each (flat_map (expand past) parents)

  -- from the first of these parents down by first parents, as long as they are removed; the oldest commit first
  abbrev pub chain : Past → List ℕ → List Node
  chain [] parents = []
  chain (n ∷ older) [] = []
  chain (n ∷ older) (p ∷ parents) =
      if n.id == p then (if removed p then chain older n.parents ++ n ∷ [] else [])
      else chain older (p ∷ parents)

  -- from a commit to its first child, and on, to the first that stays; children are later
  abbrev pub forward : List Node → ℕ → Option ℕ
  forward [] c = None
  forward (n ∷ later) c =
      if list_any (λ p. p == c) n.parents then (if removed n.id then forward later n.id else Some n.id)
      else forward later c

  -- from the first of these parents down by first parents, to the first that stays
  abbrev pub back : Past → List ℕ → Option ℕ
  back [] parents = None
  back (n ∷ older) [] = None
  back (n ∷ older) (p ∷ parents) =
      if n.id == p then (if removed p then back older n.parents else Some p)
      else back older (p ∷ parents)
