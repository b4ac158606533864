use Rattle.reorder_laws.proofs.ReorderDone.{line_ends}
use Rattle.reorder_laws.proofs.laws.a_line_is_settled_in_any_order.Goals as goal

pub returns : goal.returns
returns c = line_ends
