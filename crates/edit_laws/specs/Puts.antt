-- A tree as operations (git-fast-import, `M`).
use Rattle.std.specs.Prelude.{List, map}
use Rattle.plain_model.specs.declared.operation.FileOp.{FileOp}
use Rattle.plain_model.specs.declared.operation.FileOp.TheVariants.{Modify}
use Rattle.plain_model.specs.Trees.{Tree}

-- each path of a tree is put, in byte order
abbrev pub puts_of : Tree → List FileOp
puts_of tree = map (λ e. Modify e.1.mode e.1.content e.0) tree
