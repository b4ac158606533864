use Rattle.split_laws.proofs.SplitDone.{at_limits, by_limits}
use Rattle.split_laws.proofs.laws.a_split_keeps_the_limits.Goals as goal

pub returns : goal.returns
returns c = record { at = at_limits; by = by_limits }
