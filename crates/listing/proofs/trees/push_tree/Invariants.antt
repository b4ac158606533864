use Rattle.std.proofs.Common.{◌≡◌, ◌++◌, drop}
use Rattle.std.specs.Prelude.{flat_map}
use Rattle.listing.specs.TreeListings.{entry_line}
use Rattle.listing.proofs.trees.push_tree.Given as goal

abbrev pub invariant-loop-path : goal.invariant-loop-path
invariant-loop-path l =
    l.into ++ flat_map (entry_line l.events.list) (drop l.path-index l.path-items)
    ≡ l.fn.into ++ flat_map (entry_line l.events.list) l.tree
