use Rattle.split_laws.proofs.SplitDone.{at_sound, by_sound}
use Rattle.split_laws.proofs.laws.a_split_keeps_soundness.Goals as goal

pub returns : goal.returns
returns c = record { at = at_sound; by = by_sound }
