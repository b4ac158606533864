use Rattle.std.proofs.Common.{subst}
use Rattle.plain_model.specs.Soundness.{IsSound}
use Rattle.edit_laws.proofs.Sound.{in_parts}
use Rattle.edit_laws.proofs.Trees.{trees_fit}
use Rattle.graft_laws.proofs.GraftDone.{done, graft_sound, target_there}
use Rattle.graft_laws.proofs.laws.a_graft_replays_operations.Goals as goal

pub returns : goal.returns
returns c prune next name part set base new sound part_sound bytes low selected h =
    let d = done prune next name part set base new h in
    let done_sound = graft_sound prune next name part base d.target sound part_sound low (target_there base set d.target selected d.set_is) bytes d.enough d.passes in
    let parts = in_parts new (subst IsSound d.is done_sound) in
    trees_fit new parts.once parts.in_order
