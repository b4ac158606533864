use Rattle.coalesce_laws.proofs.Deciding.{decided}
use Rattle.coalesce_laws.proofs.laws.an_only_child_decides.Goals as goal

pub returns : goal.returns
returns c = decided
