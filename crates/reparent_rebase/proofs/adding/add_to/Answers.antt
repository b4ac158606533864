use Rattle.std.proofs.Common.{◌∙◌, ap, sym}
use Rattle.event_arena.specs.Graphs.{Change}
use Rattle.edit_laws.specs.Settling.{settle}
use Rattle.edit_laws.proofs.Sound.{in_parts}
use Rattle.commit_laws.specs.Rewriting.{rewritten_all}
use Rattle.commit_laws.proofs.Rewritten.{once_same}
use Rattle.reparent_laws.specs.Operations.{adds}
use Rattle.plan_steps.proofs.Settling.{settled_linked}
use Rattle.reparent_rebase.proofs.adding.add_to.Goals as goal

pub judge-requires-clause-earlier : goal.judge-requires-clause-earlier
judge-requires-clause-earlier c =
    let events = c.args.events.now.list in
    let how = adds c.args.op in
    let left = rewritten_all c.args.commit how events in
    settled_linked left c.put_in_order.new.plan.after (ap (λ (p : Change). settle p.after) (sym c.in_ok-plan.ensures) ∙ c.in_ok-put_in_order.ensures.settled)
    (once_same c.args.commit how events (in_parts events c.count-count.ensures.sound).once)
