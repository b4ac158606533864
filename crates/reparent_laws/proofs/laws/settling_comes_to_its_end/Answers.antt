use Rattle.reparent_laws.proofs.Operated.{add_ends}
use Rattle.reparent_laws.proofs.ReparentDone.{reparent_ends}
use Rattle.reparent_laws.proofs.laws.settling_comes_to_its_end.Goals as goal

pub returns : goal.returns
returns c = record { reparent = reparent_ends; add = add_ends }
