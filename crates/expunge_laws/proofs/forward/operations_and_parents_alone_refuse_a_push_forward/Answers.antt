use Rattle.expunge_laws.proofs.Finished.{refused_for_two}
use Rattle.expunge_laws.proofs.forward.operations_and_parents_alone_refuse_a_push_forward.Goals as goal

pub returns : goal.returns
returns c = refused_for_two
