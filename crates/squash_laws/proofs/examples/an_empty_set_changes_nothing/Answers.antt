use Rattle.squash_laws.proofs.Rows.{none_back, none_deleted, none_forward}
use Rattle.squash_laws.proofs.examples.an_empty_set_changes_nothing.Goals as goal

pub returns : goal.returns
returns c = record { forward = none_forward; back = none_back; delete = none_deleted }
