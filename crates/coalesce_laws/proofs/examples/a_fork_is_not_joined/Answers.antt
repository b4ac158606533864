use Rattle.coalesce_laws.proofs.Rows.{fork_stays}
use Rattle.coalesce_laws.proofs.examples.a_fork_is_not_joined.Goals as goal

pub returns : goal.returns
returns c = fork_stays
