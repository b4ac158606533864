use Rattle.coalesce_laws.proofs.MovedOps.{same_operations}
use Rattle.coalesce_laws.proofs.laws.operations_only_move.Goals as goal

pub returns : goal.returns
returns c = same_operations
