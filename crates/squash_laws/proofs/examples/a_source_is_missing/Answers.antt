use Rattle.squash_laws.proofs.Rows.{reset_deleted, source_missing}
use Rattle.squash_laws.proofs.examples.a_source_is_missing.Goals as goal

pub returns : goal.returns
returns c = record { missing = source_missing; reset = reset_deleted }
