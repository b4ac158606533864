use Rattle.simplify_laws.proofs.Kept.{result_ids}
use Rattle.simplify_laws.proofs.laws.simplifying_keeps_the_ids.Goals as goal

pub returns : goal.returns
returns c = result_ids
