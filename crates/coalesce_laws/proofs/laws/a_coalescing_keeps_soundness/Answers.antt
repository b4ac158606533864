use Rattle.coalesce_laws.proofs.Coalesced.{stays_sound}
use Rattle.coalesce_laws.proofs.laws.a_coalescing_keeps_soundness.Goals as goal

pub returns : goal.returns
returns c = stays_sound
