use Rattle.soundness_laws.proofs.StreamKept.{read_is_sound}
use Rattle.soundness_laws.proofs.laws.what_is_read_is_sound.Goals as goal

pub returns : goal.returns
returns c = read_is_sound
