use Rattle.expunge_laws.proofs.Nearby.{copy_near, rename_near}
use Rattle.expunge_laws.proofs.operations.what_is_written_out_is_near.Goals as goal

pub returns : goal.returns
returns c = record { copy = copy_near; rename = rename_near }
