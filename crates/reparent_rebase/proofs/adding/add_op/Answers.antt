use Rattle.std.proofs.Common.{Ok}
use Rattle.event_arena.proofs.Plans.{leaves_sound}
use Rattle.reparent_rebase.proofs.Answered.{added_of}
use Rattle.reparent_rebase.proofs.adding.add_op.Goals as goal

pub add_to-requires-clause-ends : goal.add_to-requires-clause-ends
add_to-requires-clause-ends c =
    c.settling_comes_to_its_end.ensures.add c.args.spelled.now c.in-Ok-op_of.op c.args.events.now.list c.in-Ok.commit c.count-count.ensures.sound c.requires.content c.known.ensures c.in-Ok-op_of.ensures

pub returns-in-Ok-add_to-clause-plans : goal.returns-in-Ok-add_to-clause-plans
returns-in-Ok-add_to-clause-plans c =
    let events = c.args.events.now.list in
    let set = c.args.set.now in
    let spelled = c.args.spelled.now in
    let new = c.in-Ok-add_to.plan.after in
    let done = added_of set events spelled c.in-Ok.commit c.in-Ok-op_of.op (Ok new) c.in-Ok.ensures c.in-Ok-op_of.ensures c.in-Ok-add_to.ensures.answer in (
      done,
      leaves_sound c.args.events.now new c.in-Ok-add_to.plan c.in-Ok-add_to.ensures.made
          (c.a_change_keeps_soundness.ensures.add spelled set events new c.count-count.ensures.sound c.requires.content c.known.ensures done),
    )
