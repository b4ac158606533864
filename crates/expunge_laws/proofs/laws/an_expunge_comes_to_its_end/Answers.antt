use Rattle.expunge_laws.proofs.Whole.{expunge_ends}
use Rattle.expunge_laws.proofs.laws.an_expunge_comes_to_its_end.Goals as goal

pub returns : goal.returns
returns c = expunge_ends
