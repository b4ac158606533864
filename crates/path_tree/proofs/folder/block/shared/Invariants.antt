use Rattle.std.proofs.Common.{◌≡◌, take}
use Rattle.path_tree.specs.Inside.{rows_of}
use Rattle.path_tree.proofs.folder.block.shared.Given as goal

abbrev pub invariant-loop-child : goal.invariant-loop-child
invariant-loop-child l = rows_of l.shared.items ≡ rows_of (take l.child-index l.children)
