use Rattle.expunge_laws.proofs.StayingLeft.{others_left}
use Rattle.expunge_laws.proofs.laws.no_other_event_leaves.Goals as goal

pub returns : goal.returns
returns c = others_left
