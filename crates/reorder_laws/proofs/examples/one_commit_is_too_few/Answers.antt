use Rattle.reorder_laws.proofs.Rows.{no_commit, too_few}
use Rattle.reorder_laws.proofs.examples.one_commit_is_too_few.Goals as goal

pub returns : goal.returns
returns c = record { few = too_few; blob = no_commit }
