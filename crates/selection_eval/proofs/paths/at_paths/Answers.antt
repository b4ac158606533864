use Rattle.selection_eval.specs.Paths.{at_paths}
use Rattle.selection_eval.proofs.paths.at_paths.Goals as goal

pub returns-clause-ids : goal.returns-clause-ids
unfolding at_paths
returns-clause-ids g c = c.of_bits.ensures.passing _ c.in_ok-bits.ensures.marks
