use Rattle.reorder_laws.proofs.ReorderDone.{done_sound}
use Rattle.reorder_laws.proofs.laws.a_reorder_keeps_soundness.Goals as goal

pub returns : goal.returns
returns c = done_sound
