use Rattle.std.proofs.Common.{◌≡◌, ◌∙◌, List, None, Ok, sym, ap, subst}
use Rattle.plain_model.specs.declared.event.PlainEvent.{PlainEvent}
use Rattle.plain_model.specs.Histories.{IsLinkedPast, past}
use Rattle.event_arena.specs.Graphs.{Change}
use Rattle.event_arena.proofs.Plans.{leaves_sound}
use Rattle.commit_laws.specs.Selected.{node_of}
use Rattle.reparent_laws.specs.Faults.{tree_fault, unless_fault}
use Rattle.reparent_laws.specs.Operations.{removal_fault, removed}
use Rattle.reparent_rebase.proofs.Answered.{removed_of}
use Rattle.reparent_rebase.proofs.Fewer.{removed_linked}
use Rattle.reparent_rebase.proofs.removing.remove_op.Goals as goal

pub removed-requires : goal.removed-requires
removed-requires c = ap (removal_fault c.args.what.now) (sym c.ops_of.ensures.node) ∙ sym c.in_ok-found.ensures ∙ c.in_default.is

pub judge_trees-requires-clause-earlier : goal.judge_trees-requires-clause-earlier
judge_trees-requires-clause-earlier c =
    subst (λ (es : List PlainEvent). IsLinkedPast (past es)) (ap (λ (p : Change). p.after) (sym c.in_ok-plan.ensures)) (removed_linked c.args.events.now.list c.count-count.ensures.sound c.in-Ok.commit c.args.what.now)

pub returns-in-Ok-judge_trees-clause-plans : goal.returns-in-Ok-judge_trees-clause-plans
returns-in-Ok-judge_trees-clause-plans c =
    let events = c.args.events.now.list in
    let set = c.args.set.now in
    let what = c.args.what.now in
    let new = c.in_ok-plan.plan.after in
    let none : removal_fault what (node_of events c.in-Ok.commit).ops ≡ None = ap (removal_fault what) (sym c.ops_of.ensures.node) ∙ sym c.in_ok-found.ensures ∙ c.in_default.is in
    let made = c.in_ok-plan.ensures in
    let done =
    removed_of set events what c.in-Ok.commit (Ok new) c.in-Ok.ensures none
    (ap (λ (p : Change). unless_fault (tree_fault p.after) p.after) (sym made) ∙ c.in-Ok-judge_trees.ensures.judged) in (
      done,
      leaves_sound c.args.events.now (removed events c.in-Ok.commit what) c.in_ok-plan.plan made
          (c.a_change_keeps_soundness.ensures.remove what set events new c.count-count.ensures.sound done),
    )
