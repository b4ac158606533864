use Rattle.selection_parser.proofs.RightAnswers.{answered_rightly}
use Rattle.selection_parser.proofs.laws.read_rightly.Goals as goal

pub returns : goal.returns
returns c = answered_rightly
