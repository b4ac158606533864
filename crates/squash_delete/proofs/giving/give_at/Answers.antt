use Rattle.std.proofs.Common.{refl, ap}
use Rattle.graph_walk.proofs.PlaceLemmas.{place_found}
use Rattle.plan_steps.proofs.Steps.{kept_of}
use Rattle.squash_delete.specs.declared.fates.Fate.{Fate}
use Rattle.squash_delete.specs.Fates.{given}
use Rattle.squash_delete.proofs.giving.give_at.Goals as goal

pub returns-in-Same : goal.returns-in-Same
returns-in-Same c event at =
    let plan = c.args.plan.now in
    kept_of plan event event (given c.args.fate.now) refl (place_found plan.after c.args.place event at c.count-count.ensures.once).1
    (ap (λ (f : Fate). given f event) c.in-Same.is)
