use Rattle.reparent_laws.proofs.Blobs.{blobs_go}
use Rattle.reparent_laws.proofs.laws.a_blob_goes_with_its_last_operation.Goals as goal

pub returns : goal.returns
returns c = blobs_go
