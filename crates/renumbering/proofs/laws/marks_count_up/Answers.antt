use Rattle.renumbering.proofs.Kept.{marks_same}
use Rattle.renumbering.proofs.laws.marks_count_up.Goals as goal

pub returns : goal.returns
returns c = marks_same 1
