use Rattle.coalesce_laws.proofs.Coalesced.{keeps_trees}
use Rattle.coalesce_laws.proofs.laws.a_coalescing_keeps_trees.Goals as goal

pub returns : goal.returns
returns c = keeps_trees
