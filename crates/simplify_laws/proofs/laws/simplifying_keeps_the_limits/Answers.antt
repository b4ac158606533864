use Rattle.simplify_laws.proofs.Kept.{result_within}
use Rattle.simplify_laws.proofs.laws.simplifying_keeps_the_limits.Goals as goal

pub returns : goal.returns
returns c = λ set events new w d. result_within set events new d w
