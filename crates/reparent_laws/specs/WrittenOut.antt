-- A tree as operations: each of its paths is put again, after all was deleted (git-fast-import, `deleteall`, `M`).
use Rattle.std.specs.Prelude.{ℕ, List, [], ◌∷◌, ◌++◌, unwrap_or}
use Rattle.plain_model.specs.declared.operation.FileOp.{FileOp}
use Rattle.plain_model.specs.declared.operation.FileOp.TheVariants.{DeleteAll}
use Rattle.plain_model.specs.declared.event.PlainEvent.{PlainEvent}
use Rattle.plain_model.specs.Histories.{begun, tree}
use Rattle.plain_model.specs.Trees.{Tree}
use Rattle.edit_laws.specs.Puts.{puts_of}

-- the tree with which a commit with these parents begins
abbrev pub begun_tree : List PlainEvent → List ℕ → Tree
begun_tree events parents = unwrap_or (begun (tree events) parents) []

-- these operations on that tree, whatever the commit begins with
abbrev pub written_out : List PlainEvent → List ℕ → List FileOp → List FileOp
written_out events parents ops = DeleteAll ∷ (puts_of (begun_tree events parents) ++ ops)
