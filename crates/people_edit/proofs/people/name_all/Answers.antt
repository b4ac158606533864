use Rattle.std.proofs.Common.{◌∙◌, List, ap, add-one}
use Rattle.plain_model.specs.declared.event.PlainEvent.{PlainEvent}
use Rattle.plain_model.specs.Lookups.{find_event, id_of}
use Rattle.event_arena.specs.Changes.{changed}
use Rattle.event_arena.specs.Graphs.{Change}
use Rattle.history_laws.proofs.SoundOnce.{sound_once}
use Rattle.people_laws.specs.Authors.{authored}
use Rattle.people_edit.specs.Tables.{said_for}
use Rattle.plan_steps.proofs.Steps.{step_changed, step_found}
use Rattle.people_edit.proofs.Named.{same_authored}
use Rattle.people_edit.proofs.people.name_all.Goals as goal

pub name-requires : goal.name-requires
name-requires c =
    let events = c.args.events.now.list in
    let table = c.args.table.now in
    let e = c.nth.result.now in
    ap (λ (p : Change). find_event (id_of e) p.after) c.loop-place.invariant
    ∙ step_found (authored (said_for table)) (same_authored (said_for table)) events (sound_once events c.count-place-end.ensures.sound).ids c.loop-place.place e c.nth.ensures.event

pub loop-place-preserved : goal.loop-place-preserved
loop-place-preserved c =
    let events = c.args.events.now.list in
    let table = c.args.table.now in
    let e = c.nth.result.now in
    rw add-one (c.in_ok-name.ensures
    ∙ ap (λ (p : Change). record p { after = changed (id_of e) (authored (said_for table)) p.after }) c.loop-place.invariant
    ∙ ap (λ (es : List PlainEvent). record c.args.plan.now { after = es })
    (step_changed (authored (said_for table)) (same_authored (said_for table)) events (sound_once events c.count-place-end.ensures.sound).ids c.loop-place.place e c.nth.ensures.event))
