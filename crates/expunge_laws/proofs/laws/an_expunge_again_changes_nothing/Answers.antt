use Rattle.expunge_laws.proofs.Again.{again}
use Rattle.expunge_laws.proofs.laws.an_expunge_again_changes_nothing.Goals as goal

pub returns : goal.returns
returns c = λ matched events new h. again matched events h new
