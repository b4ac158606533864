use Rattle.reorder_laws.proofs.Rows.{root_changed, same_order, two_changed}
use Rattle.reorder_laws.proofs.examples.another_order_changes_places.Goals as goal

pub returns : goal.returns
returns c = record { places = two_changed; root = root_changed; same = same_order }
