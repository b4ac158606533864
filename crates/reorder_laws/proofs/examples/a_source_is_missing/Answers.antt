use Rattle.reorder_laws.proofs.Rows.{source_missing}
use Rattle.reorder_laws.proofs.examples.a_source_is_missing.Goals as goal

pub returns : goal.returns
returns c = source_missing
