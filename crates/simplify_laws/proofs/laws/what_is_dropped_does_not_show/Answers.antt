use Rattle.simplify_laws.proofs.Voided.{simpler_tree}
use Rattle.simplify_laws.proofs.laws.what_is_dropped_does_not_show.Goals as goal

pub returns : goal.returns
returns c = λ ops old all left t a b. simpler_tree ops old left all t.in_order a b
