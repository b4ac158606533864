use Rattle.expunge_laws.proofs.Sides.{one_side}
use Rattle.expunge_laws.proofs.operations.what_gives_way_is_on_one_side.Goals as goal

pub returns : goal.returns
returns c = one_side
