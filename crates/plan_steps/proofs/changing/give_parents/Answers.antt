use Rattle.std.proofs.Common.{◌∙◌, List, ap, sym}
use Rattle.std.specs.Prelude.{is_some}
use Rattle.plain_model.specs.declared.event.PlainEvent.{PlainEvent}
use Rattle.plain_model.specs.declared.id.AnyId.TheVariants as any
use Rattle.history_laws.proofs.Ids.{placeless}
use Rattle.event_arena.specs.Changes.{with_parents}
use Rattle.history_laws.proofs.SoundOnce.{has_id_find}
use Rattle.graph_walk.proofs.PlaceLemmas.{has_id_place}
use Rattle.plan_steps.proofs.Steps.{changed_nowhere}
use Rattle.plan_steps.proofs.changing.give_parents.Goals as goal

pub set_parents-requires : goal.set_parents-requires
set_parents-requires c =
    sym (has_id_find c.args.plan.now.after (any.Commit c.args.commit)) ∙ has_id_place c.args.plan.now.after (any.Commit c.args.commit)
    ∙ ap is_some (sym c.in-Some.ensures.place)

pub returns-in-None : goal.returns-in-None
returns-in-None c =
    ap (λ (es : List PlainEvent). record c.args.plan.now { after = es })
    (sym (changed_nowhere (any.Commit c.args.commit) (with_parents c.args.parents) c.args.plan.now.after (placeless c.args.plan.now.after (any.Commit c.args.commit) (sym c.in-None.ensures.place))))
