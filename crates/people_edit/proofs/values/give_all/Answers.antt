use Rattle.std.proofs.Common.{◌∙◌, List, ap, add-one}
use Rattle.plain_model.specs.declared.event.PlainEvent.{PlainEvent}
use Rattle.plain_model.specs.Lookups.{find_event, id_of}
use Rattle.event_arena.specs.Changes.{changed}
use Rattle.event_arena.specs.Graphs.{Change}
use Rattle.history_laws.proofs.SoundOnce.{sound_once}
use Rattle.people_laws.specs.Values.{valued_in}
use Rattle.plan_steps.proofs.Steps.{step_changed, step_found}
use Rattle.people_laws.proofs.Valued.{valued_id}
use Rattle.people_edit.proofs.values.give_all.Goals as goal

pub give_at-requires-clause-found : goal.give_at-requires-clause-found
give_at-requires-clause-found c =
    let events = c.args.flagged.now.events in
    let set = c.args.flagged.now.set in
    let value = c.args.value.now in
    let e = c.nth.result.now in
    ap (λ (p : Change). find_event (id_of e) p.after) c.loop-place.invariant
    ∙ step_found (valued_in value set) (valued_id value set) events (sound_once events c.count-place-end.ensures.sound).ids c.loop-place.place e c.nth.ensures.event

pub loop-place-preserved : goal.loop-place-preserved
loop-place-preserved c =
    let events = c.args.flagged.now.events in
    let set = c.args.flagged.now.set in
    let value = c.args.value.now in
    let e = c.nth.result.now in
    rw add-one (c.in_ok-give_at.ensures
    ∙ ap (λ (p : Change). record p { after = changed (id_of e) (valued_in value set) p.after }) c.loop-place.invariant
    ∙ ap (λ (es : List PlainEvent). record c.args.plan.now { after = es })
    (step_changed (valued_in value set) (valued_id value set) events (sound_once events c.count-place-end.ensures.sound).ids c.loop-place.place e c.nth.ensures.event))
