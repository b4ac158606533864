use Rattle.std.proofs.Common.{subst}
use Rattle.edit_laws.specs.Passing.{IsWithinLimits}
use Rattle.edit_laws.proofs.Limits.{limits_hold}
use Rattle.renumbering.specs.Renumbered.{renumbered}
use Rattle.graft_laws.proofs.UniteDone.{united}
use Rattle.graft_laws.proofs.laws.a_unite_keeps_the_limits.Goals as goal

pub returns : goal.returns
returns c prune parts new h =
    let u = united prune parts new h in
    subst IsWithinLimits u.is ((limits_hold (renumbered u.joined)).0 u.passes.limits)
