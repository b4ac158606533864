use Rattle.selection_eval.specs.Paths.{in_trees}
use Rattle.selection_eval.proofs.trees.in_trees.Goals as goal

pub returns-clause-ids : goal.returns-clause-ids
unfolding in_trees
returns-clause-ids g c = c.of_bits.ensures.passing _ c.in_ok-bits.ensures.marks
