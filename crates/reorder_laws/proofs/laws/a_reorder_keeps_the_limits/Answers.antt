use Rattle.reorder_laws.proofs.ReorderDone.{done_limits}
use Rattle.reorder_laws.proofs.laws.a_reorder_keeps_the_limits.Goals as goal

pub returns : goal.returns
returns c = done_limits
