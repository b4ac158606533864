use Rattle.simplify_laws.proofs.Rows.{blob_gone}
use Rattle.simplify_laws.proofs.examples.a_blob_goes_with_its_last_operation.Goals as goal

pub returns : goal.returns
returns c = blob_gone
