use Rattle.std.proofs.Common.{◌++◌, arith}
use Rattle.path_tree.proofs.Measures.{count_is, longest_is, extent_is, trees_append, longest_append}
use Rattle.path_tree.proofs.folder.extent.joined.Goals as goal

pub returns : goal.returns
returns c a b one other =
    extent_is _ (a ++ b)
    (omega (arith, c.saturating_add.ensures, count_is c.args.one a one, count_is c.args.other b other, trees_append a b))
    (omega (arith, c.max.ensures, longest_is c.args.one a one, longest_is c.args.other b other, longest_append a b))
