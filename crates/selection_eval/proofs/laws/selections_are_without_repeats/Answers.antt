use Rattle.selection_eval.proofs.OnceLaws.{selections_once}
use Rattle.selection_eval.proofs.laws.selections_are_without_repeats.Goals as goal

pub returns : goal.returns
returns c = selections_once
