use Rattle.expunge_laws.proofs.Finished.{squash_is}
use Rattle.expunge_laws.proofs.forward.a_squash_pushes_forward.Goals as goal

pub returns : goal.returns
returns c = squash_is
