use Rattle.renumbering.proofs.Kept.{numbered_twice}
use Rattle.renumbering.proofs.laws.numbered_again.Goals as goal

pub returns : goal.returns
returns c = numbered_twice 1
