use Rattle.history_laws.proofs.TreeLaws.{apply_tree}
use Rattle.history_laws.proofs.laws.operations_keep_trees.Goals as goal

pub returns : goal.returns
returns c = apply_tree
