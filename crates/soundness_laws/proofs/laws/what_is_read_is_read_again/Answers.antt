use Rattle.round_trip_laws.proofs.Again.{again}
use Rattle.soundness_laws.proofs.StreamKept.{read_is_sound}
use Rattle.soundness_laws.proofs.laws.what_is_read_is_read_again.Goals as goal

pub returns : goal.returns
returns c = λ bytes events is. again events (read_is_sound bytes events is)
