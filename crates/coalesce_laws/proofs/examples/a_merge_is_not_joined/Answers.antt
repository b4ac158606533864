use Rattle.coalesce_laws.proofs.Rows.{merge_stays}
use Rattle.coalesce_laws.proofs.examples.a_merge_is_not_joined.Goals as goal

pub returns : goal.returns
returns c = merge_stays
