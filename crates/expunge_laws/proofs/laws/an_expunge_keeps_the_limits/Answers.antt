use Rattle.expunge_laws.proofs.Whole.{expunge_limits}
use Rattle.expunge_laws.proofs.laws.an_expunge_keeps_the_limits.Goals as goal

pub returns : goal.returns
returns c = λ matched events new h. expunge_limits matched events h new
