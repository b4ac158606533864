use Rattle.people_laws.proofs.Moved.{moved_sound}
use Rattle.people_laws.proofs.laws.time_offset_keeps_soundness.Goals as goal

pub returns : goal.returns
returns c = λ seconds zone set events new sound right done. moved_sound seconds zone set events new done sound right
