use Rattle.split_laws.proofs.SplitDone.{at_trees, by_trees}
use Rattle.split_laws.proofs.laws.a_split_keeps_trees.Goals as goal

pub returns : goal.returns
returns c = record { at = at_trees; by = by_trees }
