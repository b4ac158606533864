use Rattle.std.proofs.Common.{◌∙◌, List, ap, subst, sym}
use Rattle.std.specs.Prelude.{IsSome}
use Rattle.std.proofs.lemmas.Result.{on_ok_weaker}
use Rattle.plain_model.specs.declared.event.PlainEvent.{PlainEvent}
use Rattle.plain_model.specs.declared.id.AnyId.TheVariants as any
use Rattle.plain_model.specs.Lookups.{find_event}
use Rattle.event_arena.specs.Changes.{changed, with_signed}
use Rattle.event_arena.specs.declared.field.Role.TheVariants as role
use Rattle.event_arena.specs.Graphs.{Change}
use Rattle.plan_steps.proofs.Steps.{changed_there, changed_twice}
use Rattle.people_edit.proofs.Undated.{author_id}
use Rattle.people_edit.proofs.signing.set_both.Goals as goal

pub set_signed-requires-2-clause-there : goal.set_signed-requires-2-clause-there
set_signed-requires-2-clause-there c =
    subst (λ (es : List PlainEvent). IsSome (find_event (any.Commit c.args.id) es)) (sym (ap (λ (p : Change). p.after) c.in_ok-set_signed.ensures.ok))
    (changed_there (any.Commit c.args.id) (with_signed role.Author c.args.author) (author_id c.args.author) c.args.plan.now.after c.requires)

pub returns : goal.returns
returns c =
    on_ok_weaker c.set_signed-2.result (λ is.
    is ∙ ap (λ (p : Change). record p { after = changed (any.Commit c.args.id) (with_signed role.Committer c.args.committer) p.after }) c.in_ok-set_signed.ensures.ok
    ∙ ap (λ (es : List PlainEvent). record c.args.plan.now { after = es })
    (changed_twice (any.Commit c.args.id) (with_signed role.Committer c.args.committer) (with_signed role.Author c.args.author) (author_id c.args.author) c.args.plan.now.after)) c.set_signed-2.ensures.ok
