use Rattle.std.proofs.Common.{◌≡◌, ◌∙◌, Ok, None, sym, ap}
use Rattle.event_arena.proofs.Plans.{leaves_sound}
use Rattle.commit_laws.specs.Selected.{kind_fault}
use Rattle.reparent_laws.specs.Reparent.{ordered, reparent_last}
use Rattle.reparent_rebase.proofs.Answered.{reparented_of}
use Rattle.reparent_rebase.proofs.reparenting.reparent.Goals as goal

pub returns-in-Ok-clause-plans : goal.returns-in-Ok-clause-plans
returns-in-Ok-clause-plans c =
    let events = c.args.events.now.list in
    let set = c.args.set.now in
    let use_order = c.args.use_order in
    let rebase = c.args.rebase in
    let new = c.in-Ok.plan.after in
    let kinds : kind_fault events set ≡ None = sym c.kind_fault.ensures ∙ c.in_default.is in
    let commits : c.as_slice.result.now ≡ ordered use_order set events = c.as_slice.ensures ∙ c.in_ok-commits.ensures in
    let done = reparented_of set events use_order rebase (Ok new) kinds (ap (reparent_last rebase events) (sym commits) ∙ c.in-Ok.ensures.answer) in (
      done,
      leaves_sound c.args.events.now new c.in-Ok.plan c.in-Ok.ensures.made
          (c.a_change_keeps_soundness.ensures.reparent use_order rebase set events new c.count-count.ensures.sound c.requires.selection done),
    )
