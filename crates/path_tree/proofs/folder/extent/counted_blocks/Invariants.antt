use Rattle.std.proofs.Common.{◌≡◌, take, drop}
use Rattle.path_tree.specs.Folders.{flat, AllFit}
use Rattle.path_tree.specs.Inside.{rows_in, extent_of}
use Rattle.path_tree.proofs.folder.extent.counted_blocks.Given as goal

abbrev pub invariant-loop-block : goal.invariant-loop-block
invariant-loop-block l = record {
  extent : l.extent ≡ extent_of (flat (rows_in (take l.block-index l.blocks)));
  fit : AllFit (rows_in (drop l.block-index l.blocks));
}
