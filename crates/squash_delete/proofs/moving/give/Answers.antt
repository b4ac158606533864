use Rattle.std.proofs.Common.{◌∙◌, List, ap, sym}
use Rattle.std.specs.Prelude.{is_some}
use Rattle.plain_model.specs.declared.event.PlainEvent.{PlainEvent}
use Rattle.plain_model.specs.declared.id.AnyId.TheVariants as any
use Rattle.event_arena.specs.Changes.{with_comment, with_ops}
use Rattle.plan_steps.proofs.LeavingLemmas.{changed_nowhere, found_is}
use Rattle.squash_delete.proofs.moving.give.Goals as goal

pub set_both-requires : goal.set_both-requires
set_both-requires c =
    found_is (any.Commit c.args.commit) c.args.plan.now.after ∙ ap is_some (sym c.in-Some.ensures.place)

pub returns-in-None : goal.returns-in-None
returns-in-None c =
    ap (λ (es : List PlainEvent). record c.args.plan.now { after = es })
    (sym (changed_nowhere (any.Commit c.args.commit) (λ event. with_comment c.args.comment (with_ops c.args.ops event)) c.args.plan.now.after (sym c.in-None.ensures.place)))
