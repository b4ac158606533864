use Rattle.simplify_laws.proofs.Kept.{result_trees}
use Rattle.simplify_laws.proofs.laws.simplifying_keeps_trees.Goals as goal

pub returns : goal.returns
returns c = λ set events new h d. result_trees set events new d h
