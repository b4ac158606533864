use Rattle.std.proofs.Common.{subst, sym}
use Rattle.plan_steps.specs.Flags.{AreCandidates}
use Rattle.plan_steps.proofs.SweepLemmas.{all_candidates}
use Rattle.plan_steps.proofs.sweeping.sweep.Goals as goal

pub sweep_some-requires : goal.sweep_some-requires
sweep_some-requires c =
    let p = c.args.plan.now in
    subst (AreCandidates p.before p.after) (sym c.deref.ensures.value) (all_candidates p.before p.after c.in_ok-before.before.items c.in_ok-before.ensures)
