use Rattle.expunge_laws.proofs.Whole.{expunge_blobs}
use Rattle.expunge_laws.proofs.laws.blobs_leave_that_nothing_names.Goals as goal

pub returns : goal.returns
returns c = λ matched events new h. expunge_blobs matched events h new
