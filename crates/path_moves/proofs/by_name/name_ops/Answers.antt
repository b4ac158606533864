use Rattle.std.proofs.Common.{◌∙◌, List, add-one, ap}
use Rattle.plain_model.specs.declared.event.PlainEvent.{PlainEvent}
use Rattle.plain_model.specs.Lookups.{find_event, id_of}
use Rattle.event_arena.specs.Changes.{changed}
use Rattle.event_arena.specs.Graphs.{Change}
use Rattle.history_laws.proofs.SoundOnce.{sound_once}
use Rattle.path_move_laws.specs.ByName.{named_event}
use Rattle.path_move_laws.specs.PathMaps.{image_of}
use Rattle.plan_steps.proofs.Steps.{step_changed, step_found}
use Rattle.path_moves.proofs.CommitLemmas.{named_id}
use Rattle.path_moves.proofs.by_name.name_ops.Goals as goal

pub name_at-requires-clause-found : goal.name_at-requires-clause-found
name_at-requires-clause-found c =
    let f = image_of c.args.map.now in
    let events = c.args.events.now.list in
    let e = c.nth.result.now in
    ap (λ (p : Change). find_event (id_of e) p.after) c.loop-place.invariant
    ∙ step_found (named_event f) (named_id f) events (sound_once events c.count-place-end.ensures.sound).ids c.loop-place.place e c.nth.ensures.event

pub loop-place-preserved : goal.loop-place-preserved
loop-place-preserved c =
    let f = image_of c.args.map.now in
    let events = c.args.events.now.list in
    let k = c.loop-place.place in
    let e = c.nth.result.now in
    rw add-one (c.in_ok-name_at.ensures
    ∙ ap (λ (p : Change). record p { after = changed (id_of e) (named_event f) p.after }) c.loop-place.invariant
    ∙ ap (λ (es : List PlainEvent). record c.args.plan.now { after = es })
    (step_changed (named_event f) (named_id f) events (sound_once events c.count-place-end.ensures.sound).ids k e c.nth.ensures.event))
