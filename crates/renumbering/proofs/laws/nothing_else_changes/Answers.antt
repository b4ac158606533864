use Rattle.renumbering.proofs.Kept.{others_same}
use Rattle.renumbering.proofs.laws.nothing_else_changes.Goals as goal

pub returns : goal.returns
returns c = others_same 1
