use Rattle.std.proofs.Common.{◌∙◌, List, ap, add-one}
use Rattle.plain_model.specs.declared.event.PlainEvent.{PlainEvent}
use Rattle.plain_model.specs.Lookups.{find_event, id_of}
use Rattle.event_arena.specs.Changes.{changed}
use Rattle.event_arena.specs.Graphs.{Change}
use Rattle.history_laws.proofs.SoundOnce.{sound_once}
use Rattle.simplify_laws.specs.Simplify.{simplified_event}
use Rattle.plan_steps.proofs.Steps.{step_changed, step_found}
use Rattle.coalesce_simplify.proofs.Voided.{same_id_of}
use Rattle.coalesce_simplify.proofs.simplifying.simplify_all.Goals as goal

pub simplify_at-requires-clause-found : goal.simplify_at-requires-clause-found
simplify_at-requires-clause-found c =
    let events = c.args.chosen.now.events in
    let set = c.args.chosen.now.set in
    let e = c.nth.result.now in
    ap (λ (p : Change). find_event (id_of e) p.after) c.loop-place.invariant
    ∙ step_found (simplified_event set) (same_id_of set) events (sound_once events c.count-place-end.ensures.sound).ids c.loop-place.place e c.nth.ensures.event

pub loop-place-preserved : goal.loop-place-preserved
loop-place-preserved c =
    let events = c.args.chosen.now.events in
    let set = c.args.chosen.now.set in
    let e = c.nth.result.now in
    rw add-one (c.in_ok-simplify_at.ensures
    ∙ ap (λ (p : Change). record p { after = changed (id_of e) (simplified_event set) p.after }) c.loop-place.invariant
    ∙ ap (λ (es : List PlainEvent). record c.args.plan.now { after = es })
    (step_changed (simplified_event set) (same_id_of set) events (sound_once events c.count-place-end.ensures.sound).ids c.loop-place.place e c.nth.ensures.event))
