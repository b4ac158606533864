use Rattle.std.proofs.Common.{◌≡◌, ◌≤◌, ◌++◌, ◌*◌, ◌+◌, take, drop}
use Rattle.path_tree.specs.Folders.{prefixed, flat, total, AllFit}
use Rattle.path_tree.specs.Inside.{rows_in, rows_of}
use Rattle.history_laws.specs.SoundTrees.{AllPaths}
use Rattle.path_tree.proofs.folder.+listing.Given as goal

abbrev pub decreases-listing::list_block : goal.decreases-listing::list_block
decreases-listing::list_block l = 3 * total (flat (rows_of l.children.now))

abbrev pub decreases-listing::list_blocks : goal.decreases-listing::list_blocks
decreases-listing::list_blocks l = 3 * total (flat (rows_in l.blocks.now)) + 1

abbrev pub decreases-Folder::list : goal.decreases-Folder::list
decreases-Folder::list l = 3 * total l.self.now + 2

abbrev pub invariant-listing::list_block-loop-child : goal.invariant-listing::list_block-loop-child
invariant-listing::list_block-loop-child l = record {
  so_far : l.list ≡ l.fn.list ++ prefixed l.before (flat (rows_of (take l.child-index l.children)));
  left : AllPaths (prefixed l.before (flat (rows_of (drop l.child-index l.children))));
  fit : AllFit (rows_of (drop l.child-index l.children));
  size : total (flat (rows_of (drop l.child-index l.children))) ≤ total (flat (rows_of l.children));
}

abbrev pub invariant-listing::list_blocks-loop-block :
    goal.invariant-listing::list_blocks-loop-block
invariant-listing::list_blocks-loop-block l = record {
  so_far : l.list ≡ l.fn.list ++ prefixed l.before (flat (rows_in (take l.block-index l.blocks)));
  left : AllPaths (prefixed l.before (flat (rows_in (drop l.block-index l.blocks))));
  fit : AllFit (rows_in (drop l.block-index l.blocks));
  size : total (flat (rows_in (drop l.block-index l.blocks))) ≤ total (flat (rows_in l.blocks));
}
