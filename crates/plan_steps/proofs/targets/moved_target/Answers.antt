use Rattle.std.proofs.Common.{◌∙◌, sym}
use Rattle.history_laws.proofs.Lists.{item_at}
use Rattle.plan_steps.proofs.NearLemmas.{lost_is}
use Rattle.plan_steps.proofs.NodeLemmas.{target_there}
use Rattle.plan_steps.proofs.targets.moved_target.Goals as goal

pub moved-requires-clause-there : goal.moved-requires-clause-there
moved-requires-clause-there c =
    let item = item_at c.args.removal.now.events c.args.place c.requires.place in
    target_there c.args.removal.now.events c.count-count.ensures.sound c.args.place c.in_ok-commit.commit item.0 item.1
    (lost_is c.args.removal.now.set c.in_ok-commit.commit item.0 (sym (c.lost_at.ensures item.0 item.1) ∙ c.in_ok-commit.was)).0

pub moved-requires-clause-removed : goal.moved-requires-clause-removed
moved-requires-clause-removed c =
    let item = item_at c.args.removal.now.events c.args.place c.requires.place in
    (lost_is c.args.removal.now.set c.in_ok-commit.commit item.0 (sym (c.lost_at.ensures item.0 item.1) ∙ c.in_ok-commit.was)).1
