use Rattle.reparent_laws.proofs.ListOrder.{two_in_order, two_turned}
use Rattle.reparent_laws.proofs.laws.a_merge_goes_by_event_numbers.Goals as goal

pub returns : goal.returns
returns c = record { selected = two_in_order; turned = two_turned }
