use Rattle.coalesce_laws.proofs.Added.{still_within}
use Rattle.coalesce_laws.proofs.laws.a_coalescing_keeps_the_limits.Goals as goal

pub returns : goal.returns
returns c = still_within
