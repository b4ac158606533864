-- Histories, and the tree of a commit.
use Rattle.std.specs.Prelude.{ℕ, Bool, ◌==◌, List, [], ◌∷◌, reverse, Option, Some, None, Result, Ok, Err, IsTrue, IsFalse, is_some, if◌then◌else◌}
use Rattle.std.specs.List.{AllByRecursion, list_any}
use Rattle.plain_model.specs.declared.operation.FileOp.{FileOp}
use Rattle.plain_model.specs.declared.event.PlainEvent.{PlainEvent}
use Rattle.plain_model.specs.declared.event.PlainEvent.TheVariants.{Blob, Commit, Tag, Reset, Pass}
use Rattle.plain_model.specs.Trees.{Tree, Refusal, apply_all}

-- what the trees hang on: a commit without its words
pub record Node : Type 0 where
  pub id : ℕ
  pub parents : List ℕ
  pub ops : List FileOp

-- the commits, in order
abbrev pub nodes : List PlainEvent → List Node
nodes [] = []
nodes (Commit id mark branch author committer encoding comment parents ops aliases ∷ events) = record { id = id; parents = parents; ops = ops } ∷ nodes events
nodes (Blob id mark bytes ∷ events) = nodes events
nodes (Tag id name target tagger comment mark ∷ events) = nodes events
nodes (Reset id branch target ∷ events) = nodes events
nodes (Pass id line ∷ events) = nodes events

-- the tree that the operations leave, if none is refused
abbrev pub if_ok : Result Tree Refusal → Option Tree
if_ok (Ok tree) = Some tree
if_ok (Err _) = None

abbrev pub folded : List FileOp → Option Tree → Option Tree
folded ops None = None
folded ops (Some tree) = if_ok (apply_all ops tree)

-- what a commit with these parents begins with: its first parent's tree, or the empty one
abbrev pub begun : (ℕ → Option Tree) → List ℕ → Option Tree
begun tree_of [] = Some []
begun tree_of (p ∷ ps) = tree_of p

-- The commits from the last one back. The parents of each are after it.
abbrev pub Past : Type 0
Past = List Node

abbrev pub tree_in : Past → ℕ → Option Tree
tree_in [] c = None
tree_in (n ∷ older) c =
    if n.id == c then folded n.ops (begun (tree_in older) n.parents) else tree_in older c

abbrev pub past : List PlainEvent → Past
past events = reverse (nodes events)

-- the tree of a commit
abbrev pub tree : List PlainEvent → ℕ → Option Tree
tree events c = tree_in (past events) c

abbrev pub knows : Past → ℕ → Bool
knows older c = list_any (λ n. n.id == c) older

-- ids are distinct, parents are earlier commits, and each commit has a tree
abbrev pub IsSoundPast : Past → Type 0
IsSoundPast [] = Unit {0}
IsSoundPast (n ∷ older) =
    IsFalse (knows older n.id)
    × AllByRecursion (λ p. IsTrue (knows older p)) n.parents
    × IsTrue (is_some (tree_in (n ∷ older) n.id))
    × IsSoundPast older

-- ids are distinct, and parents are earlier commits
abbrev pub IsLinkedPast : Past → Type 0
IsLinkedPast [] = Unit {0}
IsLinkedPast (n ∷ older) =
    IsFalse (knows older n.id)
    × AllByRecursion (λ p. IsTrue (knows older p)) n.parents
    × IsLinkedPast older

-- the commit with the id
abbrev pub node_at : Past → ℕ → Option Node
node_at [] c = None
node_at (n ∷ older) c = if n.id == c then Some n else node_at older c
