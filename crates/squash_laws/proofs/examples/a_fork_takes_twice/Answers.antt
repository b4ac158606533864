use Rattle.squash_laws.proofs.Rows.{fork_forward}
use Rattle.squash_laws.proofs.examples.a_fork_takes_twice.Goals as goal

pub returns : goal.returns
returns c = fork_forward
