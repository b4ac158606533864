use Rattle.tagify_laws.proofs.Done.{trees_had}
use Rattle.tagify_laws.proofs.laws.a_tagify_keeps_trees.Goals as goal

pub returns : goal.returns
returns c = λ next selected events new h below d. trees_had next selected events new h d below
