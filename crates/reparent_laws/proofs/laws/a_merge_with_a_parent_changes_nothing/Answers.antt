use Rattle.reparent_laws.proofs.Again.{merge_again}
use Rattle.reparent_laws.proofs.laws.a_merge_with_a_parent_changes_nothing.Goals as goal

pub returns : goal.returns
returns c = merge_again
