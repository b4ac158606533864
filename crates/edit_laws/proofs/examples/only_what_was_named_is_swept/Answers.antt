use Rattle.edit_laws.proofs.Rows.{blob_swept}
use Rattle.edit_laws.proofs.examples.only_what_was_named_is_swept.Goals as goal

pub returns : goal.returns
returns c = blob_swept
