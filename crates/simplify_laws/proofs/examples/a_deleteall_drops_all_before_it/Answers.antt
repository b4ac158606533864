use Rattle.simplify_laws.proofs.Rows.{anew}
use Rattle.simplify_laws.proofs.examples.a_deleteall_drops_all_before_it.Goals as goal

pub returns : goal.returns
returns c = anew
