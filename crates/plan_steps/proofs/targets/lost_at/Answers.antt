use Rattle.std.proofs.Common.{◌∙◌, sym}
use Rattle.plan_steps.proofs.NodeLemmas.{target_there}
use Rattle.plan_steps.proofs.targets.lost_at.Goals as goal

pub has-requires : goal.has-requires
has-requires c =
    target_there c.args.removal.now.events c.count-count.ensures.sound c.args.place c.in_ok-target.target c.nth.result.now c.nth.ensures.event
    (sym c.target_of.ensures ∙ c.in_ok-target.was)
