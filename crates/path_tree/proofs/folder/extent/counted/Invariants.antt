use Rattle.std.proofs.Common.{◌≡◌, take, drop}
use Rattle.path_tree.specs.Folders.{flat, AllFit}
use Rattle.path_tree.specs.Inside.{rows_of, extent_of}
use Rattle.path_tree.proofs.folder.extent.counted.Given as goal

abbrev pub invariant-loop-child : goal.invariant-loop-child
invariant-loop-child l = record {
  extent : l.extent ≡ extent_of (flat (rows_of (take l.child-index l.children)));
  fit : AllFit (rows_of (drop l.child-index l.children));
}
