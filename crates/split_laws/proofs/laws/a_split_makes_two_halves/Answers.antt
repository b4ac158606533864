use Rattle.split_laws.proofs.SplitDone.{at_halves, by_halves}
use Rattle.split_laws.proofs.laws.a_split_makes_two_halves.Goals as goal

pub returns : goal.returns
returns c = record { at = at_halves; by = by_halves }
