use Rattle.coalesce_laws.proofs.Coalesced.{done}
use Rattle.coalesce_laws.proofs.laws.a_coalescing_comes_to_its_end.Goals as goal

pub returns : goal.returns
returns c = done
