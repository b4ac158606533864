use Rattle.std.proofs.Common.{◌∙◌, List, ap, add-one}
use Rattle.std.proofs.Math.Facts.{to_z-of_z}
use Rattle.plain_model.specs.declared.event.PlainEvent.{PlainEvent}
use Rattle.plain_model.specs.Lookups.{find_event, id_of}
use Rattle.event_arena.specs.Changes.{changed}
use Rattle.event_arena.specs.Graphs.{Change}
use Rattle.history_laws.proofs.SoundOnce.{sound_once}
use Rattle.people_laws.specs.Dates.{dated_in}
use Rattle.plan_steps.proofs.Steps.{step_changed, step_found}
use Rattle.people_laws.proofs.Moved.{dated_id}
use Rattle.people_edit.proofs.dates.date_all.Goals as goal

pub date_at-requires-clause-found : goal.date_at-requires-clause-found
date_at-requires-clause-found c =
    let events = c.args.flagged.now.events in
    let set = c.args.flagged.now.set in
    let seconds = c.args.seconds in
    let zone = c.args.zone.now in
    let e = c.nth.result.now in
    ap (λ (p : Change). find_event (id_of e) p.after) (rw (to_z-of_z c.ranges.seconds) at c.loop-place.invariant)
    ∙ step_found (dated_in seconds zone set) (dated_id seconds zone set) events (sound_once events c.count-place-end.ensures.sound).ids c.loop-place.place e c.nth.ensures.event

pub loop-place-preserved : goal.loop-place-preserved
loop-place-preserved c =
    let events = c.args.flagged.now.events in
    let set = c.args.flagged.now.set in
    let seconds = c.args.seconds in
    let zone = c.args.zone.now in
    let e = c.nth.result.now in
    rw (add-one, to_z-of_z c.ranges.seconds) ((rw (to_z-of_z c.ranges.seconds) at c.in_ok-date_at.ensures)
    ∙ ap (λ (p : Change). record p { after = changed (id_of e) (dated_in seconds zone set) p.after }) (rw (to_z-of_z c.ranges.seconds) at c.loop-place.invariant)
    ∙ ap (λ (es : List PlainEvent). record c.args.plan.now { after = es })
    (step_changed (dated_in seconds zone set) (dated_id seconds zone set) events (sound_once events c.count-place-end.ensures.sound).ids c.loop-place.place e c.nth.ensures.event))
