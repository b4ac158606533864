use Rattle.expunge_laws.proofs.Whole.{refused_for_operations}
use Rattle.expunge_laws.proofs.laws.operations_alone_refuse_an_expunge.Goals as goal

pub returns : goal.returns
returns c = λ matched events new h. refused_for_operations matched events h new
