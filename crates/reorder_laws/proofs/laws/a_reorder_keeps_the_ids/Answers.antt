use Rattle.reorder_laws.proofs.ReorderDone.{done_ids}
use Rattle.reorder_laws.proofs.laws.a_reorder_keeps_the_ids.Goals as goal

pub returns : goal.returns
returns c = done_ids
