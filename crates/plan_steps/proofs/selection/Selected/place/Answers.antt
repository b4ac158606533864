use Rattle.std.proofs.Common.{◌∙◌, List, ap, subst, sym}
use Rattle.std.specs.Prelude.{IsSome, is_some}
use Rattle.plain_model.specs.declared.event.PlainEvent.{PlainEvent}
use Rattle.plain_model.specs.declared.id.AnyId.TheVariants as any
use Rattle.plain_model.specs.Lookups.{find_event}
use Rattle.graph_walk.proofs.ParentLemmas.{found_place}
use Rattle.plan_steps.specs.Chosen.{Chosen}
use Rattle.plan_steps.proofs.selection.Selected.place.Goals as goal

pub unwrap-requires : goal.unwrap-requires
unwrap-requires c =
    let events = c.self.inside.list.now in
    ap is_some c.place.ensures.place
    ∙ found_place events (any.Commit c.args.commit) (subst (λ (es : List PlainEvent). IsSome (find_event (any.Commit c.args.commit) es)) (sym (ap (λ (r : Chosen). r.events) c.self.view_is)) c.requires)
