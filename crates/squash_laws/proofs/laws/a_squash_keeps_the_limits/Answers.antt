use Rattle.squash_laws.proofs.Done.{done_limits}
use Rattle.squash_laws.proofs.laws.a_squash_keeps_the_limits.Goals as goal

pub returns : goal.returns
returns c = done_limits
