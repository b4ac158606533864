use Rattle.squash_laws.proofs.Done.{done_trees}
use Rattle.squash_laws.proofs.Shows.{forward_shown}
use Rattle.squash_laws.proofs.laws.a_push_forward_keeps_trees.Goals as goal

pub returns : goal.returns
returns c = record { trees = done_trees; shown = forward_shown }
