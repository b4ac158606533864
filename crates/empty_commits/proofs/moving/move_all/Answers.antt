use Rattle.std.proofs.Common.{◌∙◌, List, ap, add-one}
use Rattle.plain_model.specs.declared.event.PlainEvent.{PlainEvent}
use Rattle.plain_model.specs.Lookups.{find_event, id_of}
use Rattle.event_arena.specs.Changes.{changed}
use Rattle.event_arena.specs.Graphs.{Change}
use Rattle.history_laws.proofs.SoundOnce.{sound_once}
use Rattle.plan_steps.proofs.Steps.{step_changed, step_found}
use Rattle.tagify_laws.specs.InPlace.{moved}
use Rattle.tagify_laws.proofs.InOrder.{same_moved}
use Rattle.empty_commits.proofs.moving.move_all.Goals as goal

pub move_at-requires-clause-found : goal.move_at-requires-clause-found
move_at-requires-clause-found c =
    let events = c.args.empties.now.events in
    let set = c.args.empties.now.set in
    let e = c.nth.result.now in
    ap (λ (p : Change). find_event (id_of e) p.after) c.loop-place.invariant
    ∙ step_found (moved set events) (same_moved set events) events (sound_once events c.count-place-end.ensures.sound).ids c.loop-place.place e c.nth.ensures.event

pub loop-place-preserved : goal.loop-place-preserved
loop-place-preserved c =
    let events = c.args.empties.now.events in
    let set = c.args.empties.now.set in
    let e = c.nth.result.now in
    rw add-one (c.in_ok-move_at.ensures
    ∙ ap (λ (p : Change). record p { after = changed (id_of e) (moved set events) p.after }) c.loop-place.invariant
    ∙ ap (λ (es : List PlainEvent). record c.args.plan.now { after = es })
    (step_changed (moved set events) (same_moved set events) events (sound_once events c.count-place-end.ensures.sound).ids c.loop-place.place e c.nth.ensures.event))
