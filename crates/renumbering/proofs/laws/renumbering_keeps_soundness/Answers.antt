use Rattle.renumbering.proofs.Sound.{sound_again}
use Rattle.renumbering.proofs.laws.renumbering_keeps_soundness.Goals as goal

pub returns : goal.returns
returns c = sound_again
