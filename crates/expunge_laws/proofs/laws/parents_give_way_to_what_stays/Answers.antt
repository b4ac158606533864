use Rattle.expunge_laws.proofs.ParentsLeft.{parents_left}
use Rattle.expunge_laws.proofs.laws.parents_give_way_to_what_stays.Goals as goal

pub returns : goal.returns
returns c = parents_left
