use Rattle.expunge_laws.proofs.Whole.{expunge_sound}
use Rattle.expunge_laws.proofs.laws.an_expunge_keeps_soundness.Goals as goal

pub returns : goal.returns
returns c = λ matched events new h. expunge_sound matched events h new
