use Rattle.std.proofs.Common.{◌∙◌, List, ap, sym}
use Rattle.std.specs.Prelude.{is_some}
use Rattle.plain_model.specs.declared.event.PlainEvent.{PlainEvent}
use Rattle.plain_model.specs.declared.id.AnyId.TheVariants as any
use Rattle.event_arena.specs.Changes.{with_parents}
use Rattle.plan_steps.proofs.LeavingLemmas.{changed_nowhere, found_is}
use Rattle.squash_delete.proofs.parents.give.Goals as goal

pub set_parents-requires : goal.set_parents-requires
set_parents-requires c =
    found_is (any.Commit c.args.commit) c.args.plan.now.after ∙ ap is_some (sym c.in-Some.ensures.place)

pub returns-in-None : goal.returns-in-None
returns-in-None c =
    ap (λ (es : List PlainEvent). record c.args.plan.now { after = es })
    (sym (changed_nowhere (any.Commit c.args.commit) (with_parents c.args.parents.now) c.args.plan.now.after (sym c.in-None.ensures.place)))
