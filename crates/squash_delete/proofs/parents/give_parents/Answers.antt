use Rattle.std.proofs.Common.{◌∙◌, List, add-one, ap, sym, suc, take}
use Rattle.plain_model.specs.declared.event.PlainEvent.{PlainEvent}
use Rattle.plain_model.specs.declared.id.AnyId.TheVariants as any
use Rattle.event_arena.specs.Changes.{changed, with_parents}
use Rattle.event_arena.specs.Graphs.{Change}
use Rattle.event_arena.proofs.ListLemmas.{take_more}
use Rattle.plan_steps.specs.Leaving.{with_all_parents}
use Rattle.plan_steps.proofs.LeavingLemmas.{parents_push}
use Rattle.squash_delete.proofs.parents.give_parents.Goals as goal

pub loop-change-preserved : goal.loop-change-preserved
loop-change-preserved c =
    let k = c.loop-change.change-index in
    let change = c.change-item.result in
    let start = c.args.plan.now in
    let items = c.as_slice-change-items.result.now in
    let same = c.as_slice-change-items.ensures in
    let more =
    ap (λ cs. with_all_parents (take (suc k) cs) start.after) (sym same)
    ∙ ap (λ cs. with_all_parents cs start.after) (take_more items k change c.loop-change-test.true c.change-item.is)
    ∙ parents_push (take k items) change start.after
    ∙ ap (λ cs. changed (any.Commit change.0) (with_parents change.1) (with_all_parents (take k cs) start.after)) same in
    rw add-one (
    c.in_ok-give.ensures
    ∙ ap (λ (p : Change). record p { after = changed (any.Commit change.0) (with_parents change.1) p.after }) c.loop-change.invariant
    ∙ ap (λ (es : List PlainEvent). record start { after = es }) (sym more)
    )
