use Rattle.edit_laws.proofs.Trees.{linked_in_order}
use Rattle.edit_laws.proofs.laws.a_list_in_order_is_linked.Goals as goal

pub returns : goal.returns
returns c = linked_in_order
