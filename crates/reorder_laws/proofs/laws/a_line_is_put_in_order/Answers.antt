use Rattle.reorder_laws.proofs.ReorderDone.{done_in_order}
use Rattle.reorder_laws.proofs.laws.a_line_is_put_in_order.Goals as goal

pub returns : goal.returns
returns c = done_in_order
