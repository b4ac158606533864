use Rattle.reparent_laws.proofs.OneCommit.{added_to_one, removed_from_one}
use Rattle.reparent_laws.proofs.laws.an_operation_is_of_one_commit.Goals as goal

pub returns : goal.returns
returns c = record { add = added_to_one; remove = removed_from_one }
