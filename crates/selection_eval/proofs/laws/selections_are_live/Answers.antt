use Rattle.selection_eval.proofs.LiveLaws.{selections_live}
use Rattle.selection_eval.proofs.laws.selections_are_live.Goals as goal

pub returns : goal.returns
returns c = selections_live
