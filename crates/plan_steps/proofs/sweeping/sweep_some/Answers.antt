use Rattle.std.proofs.Common.{◌∙◌, List, ap}
use Rattle.std.proofs.lemmas.Result.{on_ok_weaker}
use Rattle.plain_model.specs.declared.id.AnyId.{AnyId}
use Rattle.plain_model.specs.declared.event.PlainEvent.{PlainEvent}
use Rattle.event_arena.specs.Changes.{without_all}
use Rattle.edit_laws.specs.Sweeping.{is_left_over}
use Rattle.plan_steps.proofs.SweepLemmas.{without_passing}
use Rattle.plan_steps.proofs.sweeping.sweep_some.Goals as goal

pub returns-clause-swept : goal.returns-clause-swept
returns-clause-swept c =
    let p = c.args.plan.now in
    let after = ap (λ (ids : List AnyId). without_all ids p.after) c.in_ok-ids.ensures ∙ without_passing (is_left_over p.before p.after) p.after c.count-count.ensures.once in
    on_ok_weaker c.take_away.result (λ is. is ∙ ap (λ (es : List PlainEvent). record p { after = es }) after) c.take_away.ensures.ok
