use Rattle.std.proofs.Common.{subst}
use Rattle.edit_laws.specs.Passing.{IsWithinLimits}
use Rattle.edit_laws.proofs.Limits.{limits_hold}
use Rattle.graft_laws.specs.Graft.{grafted}
use Rattle.graft_laws.proofs.GraftDone.{done}
use Rattle.graft_laws.proofs.laws.a_graft_keeps_the_limits.Goals as goal

pub returns : goal.returns
returns c prune next name part set base new h =
    let d = done prune next name part set base new h in
    subst IsWithinLimits d.is ((limits_hold (grafted prune next name part d.target base)).0 d.passes.limits)
