use Rattle.squash_laws.proofs.Done.{done_sound}
use Rattle.squash_laws.proofs.laws.a_squash_keeps_soundness.Goals as goal

pub returns : goal.returns
returns c = done_sound
