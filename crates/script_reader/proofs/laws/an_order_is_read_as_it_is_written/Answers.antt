use Rattle.script_reader.proofs.WrittenOrders.{order_again}
use Rattle.script_reader.proofs.laws.an_order_is_read_as_it_is_written.Goals as goal

pub returns : goal.returns
returns c = order_again c.read_rightly.ensures
