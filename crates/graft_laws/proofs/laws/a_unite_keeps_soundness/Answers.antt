use Rattle.graft_laws.proofs.UniteDone.{unite_sound, united}
use Rattle.graft_laws.proofs.laws.a_unite_keeps_soundness.Goals as goal

pub returns : goal.returns
returns c prune parts new good h =
    unite_sound prune parts new (united prune parts new h) good
