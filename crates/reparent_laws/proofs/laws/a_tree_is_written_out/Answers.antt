use Rattle.reparent_laws.proofs.Puts.{written_anew}
use Rattle.reparent_laws.proofs.laws.a_tree_is_written_out.Goals as goal

pub returns : goal.returns
returns c = written_anew
