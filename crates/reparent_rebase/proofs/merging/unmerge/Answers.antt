use Rattle.std.proofs.Common.{ap}
use Rattle.event_arena.specs.Graphs.{Change}
use Rattle.event_arena.proofs.Plans.{leaves_sound}
use Rattle.reparent_rebase.proofs.Answered.{unmerged_of}
use Rattle.commit_laws.specs.Rewriting.{rewritten_all}
use Rattle.reparent_laws.specs.Merge.{unmerges}
use Rattle.reparent_rebase.proofs.merging.unmerge.Goals as goal

pub returns : goal.returns
returns c =
    let events = c.args.events.now.list in
    let set = c.args.set.now in
    let new = c.in_ok-plan.plan.after in
    let done = unmerged_of set events c.in-Ok.commit new c.in-Ok.ensures (ap (λ (p : Change). p.after) c.in_ok-plan.ensures) in
    (done, leaves_sound c.args.events.now (rewritten_all c.in-Ok.commit unmerges events) c.in_ok-plan.plan c.in_ok-plan.ensures (c.a_change_keeps_soundness.ensures.unmerge set events new c.count-count.ensures.sound done))
