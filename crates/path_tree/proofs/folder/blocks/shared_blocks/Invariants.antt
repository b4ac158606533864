use Rattle.std.proofs.Common.{◌≡◌, take}
use Rattle.path_tree.specs.Inside.{blocks_of}
use Rattle.path_tree.proofs.folder.blocks.shared_blocks.Given as goal

abbrev pub invariant-loop-block : goal.invariant-loop-block
invariant-loop-block l = blocks_of l.shared.items ≡ blocks_of (take l.block-index l.blocks)
