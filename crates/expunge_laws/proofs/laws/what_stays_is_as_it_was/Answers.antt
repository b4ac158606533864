use Rattle.expunge_laws.proofs.Whole.{expunge_stays}
use Rattle.expunge_laws.proofs.laws.what_stays_is_as_it_was.Goals as goal

pub returns : goal.returns
returns c = λ matched events new h. expunge_stays matched events h new
