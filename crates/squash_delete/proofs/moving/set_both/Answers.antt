use Rattle.std.proofs.Common.{◌∙◌, List, ap, subst, sym}
use Rattle.std.specs.Prelude.{IsSome}
use Rattle.std.proofs.lemmas.Result.{on_ok_weaker}
use Rattle.plain_model.specs.declared.event.PlainEvent.{PlainEvent}
use Rattle.plain_model.specs.declared.id.AnyId.TheVariants as any
use Rattle.plain_model.specs.Lookups.{find_event}
use Rattle.event_arena.specs.Changes.{changed, with_comment, with_ops}
use Rattle.event_arena.specs.Graphs.{Change}
use Rattle.plan_steps.proofs.Steps.{changed_there, changed_twice, ops_id}
use Rattle.squash_delete.proofs.moving.set_both.Goals as goal

pub set_comment-requires-clause-there : goal.set_comment-requires-clause-there
set_comment-requires-clause-there c =
    subst (λ (es : List PlainEvent). IsSome (find_event (any.Commit c.args.commit) es)) (sym (ap (λ (p : Change). p.after) c.in_ok-set_ops.ensures.ok))
    (changed_there (any.Commit c.args.commit) (with_ops c.args.ops) (ops_id c.args.ops) c.args.plan.now.after c.requires)

pub returns : goal.returns
returns c =
    on_ok_weaker c.set_comment.result (λ is.
    is ∙ ap (λ (p : Change). record p { after = changed (any.Commit c.args.commit) (with_comment c.args.comment) p.after }) c.in_ok-set_ops.ensures.ok
    ∙ ap (λ (es : List PlainEvent). record c.args.plan.now { after = es })
    (changed_twice (any.Commit c.args.commit) (with_comment c.args.comment) (with_ops c.args.ops) (ops_id c.args.ops) c.args.plan.now.after)) c.set_comment.ensures.ok
