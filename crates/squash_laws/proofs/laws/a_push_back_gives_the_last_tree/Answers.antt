use Rattle.squash_laws.proofs.Done.{back_trees}
use Rattle.squash_laws.proofs.Shows.{back_shown}
use Rattle.squash_laws.proofs.laws.a_push_back_gives_the_last_tree.Goals as goal

pub returns : goal.returns
returns c = record { trees = back_trees; shown = back_shown }
