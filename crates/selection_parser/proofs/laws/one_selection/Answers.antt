use Rattle.selection_parser.proofs.RightAnswers.{spelled_once}
use Rattle.selection_parser.proofs.laws.one_selection.Goals as goal

pub returns : goal.returns
returns c = spelled_once
