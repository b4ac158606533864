use Rattle.std.proofs.Common.{◌∙◌, List, ap, add-one}
use Rattle.plain_model.specs.declared.event.PlainEvent.{PlainEvent}
use Rattle.plain_model.specs.Lookups.{find_event, id_of}
use Rattle.event_arena.specs.Changes.{changed}
use Rattle.event_arena.specs.Graphs.{Change}
use Rattle.history_laws.proofs.SoundOnce.{sound_once}
use Rattle.split_reorder.specs.Copies.{put_onto}
use Rattle.split_reorder.proofs.Halving.{onto_id}
use Rattle.plan_steps.proofs.Steps.{step_changed, step_found}
use Rattle.split_reorder.proofs.onto.put_all_onto.Goals as goal

pub put_onto-requires : goal.put_onto-requires
put_onto-requires c =
    let events = c.args.events.now.list in
    let g = put_onto c.args.commit c.args.copy in
    let e = c.nth.result.now in
    ap (λ (p : Change). find_event (id_of e) p.after) c.loop-place.invariant
    ∙ step_found g (onto_id c.args.commit c.args.copy) events (sound_once events c.count-place-end.ensures.sound).ids c.loop-place.place e c.nth.ensures.event

pub loop-place-preserved : goal.loop-place-preserved
loop-place-preserved c =
    let events = c.args.events.now.list in
    let g = put_onto c.args.commit c.args.copy in
    let e = c.nth.result.now in
    rw add-one (c.in_ok-put_onto.ensures
    ∙ ap (λ (p : Change). record p { after = changed (id_of e) g p.after }) c.loop-place.invariant
    ∙ ap (λ (es : List PlainEvent). record c.args.plan.now { after = es })
    (step_changed g (onto_id c.args.commit c.args.copy) events (sound_once events c.count-place-end.ensures.sound).ids c.loop-place.place e c.nth.ensures.event))
