-- What is known of the trees of a history, and of the commit that is being read.
use Rattle.std.specs.Prelude.{◌≡◌, ℕ, ◌≤◌, List, length, Option, Some, None}
use Rattle.plain_model.specs.declared.event.PlainEvent.{PlainEvent}
use Rattle.plain_model.specs.declared.operation.FileOp.{FileOp}
use Rattle.plain_model.specs.Histories.{begun, folded, tree}
use Rattle.plain_model.specs.Trees.{Tree}
use Rattle.stream_builder.specs.declared.known.OpenTree.{OpenTree}
use Rattle.stream_builder.specs.declared.known.OpenTree.TheVariants.{NotFolded, Folded}
use Rattle.stream_builder.specs.declared.known.Trees.{Trees}
use Rattle.stream_builder.specs.Keeping.{AreEarlier}

-- the tree after the operations of a commit with these parents, unless one is refused
abbrev pub open_tree : List PlainEvent → List ℕ → List FileOp → Option Tree
open_tree events parents ops = folded ops (begun (tree events) parents)

-- a tree has at most so many paths, if it is there
abbrev pub HasAtMost : ℕ → Option Tree → Type 0
HasAtMost most None = Unit {0}
HasAtMost most (Some t) = length t ≤ most

-- what was folded is what is expected
abbrev pub IsOpened : OpenTree → Option Tree → Type 0
IsOpened NotFolded expected = Unit {0}
IsOpened (Folded t) expected = t ≡ expected

-- what is known agrees with a history, and with a commit that has these parents and operations so far
pub record TreesAgree (t : Trees) (events : List PlainEvent) (parents : List ℕ) (ops : List FileOp) : Type 0 where
  pub earlier : AreEarlier events t.kept
  pub is_opened : IsOpened t.opened (open_tree events parents ops)
  pub all : (c : ℕ) → HasAtMost t.most (tree events c)
  pub own : HasAtMost t.most (open_tree events parents ops)
