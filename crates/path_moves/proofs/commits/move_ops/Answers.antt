use Rattle.std.proofs.Common.{◌∙◌, ◌+◌, List, ◌∷◌, add-one, drop, refl, sym, ap, subst, arith, Option}
use Rattle.std.proofs.lemmas.Result.{err_from_is_err_and}
use Rattle.plain_model.specs.declared.event.PlainEvent.{PlainEvent}
use Rattle.plain_model.specs.declared.fault.Fault.{Fault}
use Rattle.plain_model.specs.Lookups.{find_event, id_of}
use Rattle.event_arena.specs.Changes.{changed}
use Rattle.event_arena.specs.Graphs.{Change}
use Rattle.event_arena.proofs.ListLemmas.{drop_item}
use Rattle.history_laws.proofs.SoundOnce.{sound_once}
use Rattle.path_move_laws.specs.Moves.{first_of, moved_event}
use Rattle.path_move_laws.specs.PathMaps.{image_of}
use Rattle.plan_steps.proofs.Steps.{step_changed, step_found}
use Rattle.path_moves.specs.Commits.{Reports}
use Rattle.path_moves.proofs.CommitLemmas.{calm_step, moved_id, reports_step}
use Rattle.path_moves.proofs.commits.move_ops.Goals as goal

pub loop-place-init : goal.loop-place-init
loop-place-init c = record {
  agrees = c.requires.agrees;
  pairs = c.in_ok-kept.ensures.pairs (image_of c.args.map.now);
  due = c.in_ok-kept.ensures.due;
  may = λ j e i at low own. absurd (omega arith);
  calm = refl;
  plan = ap (λ (es : List PlainEvent). record c.args.plan.now { after = es }) c.requires.whole;
}

pub move_at-requires-clause-found : goal.move_at-requires-clause-found
move_at-requires-clause-found c =
    let f = image_of c.args.map.now in
    let events = c.args.events.now.list in
    let e = c.nth-event.result.now in
    ap (λ (p : Change). find_event (id_of e) p.after) c.loop-place.invariant.plan
    ∙ step_found (moved_event f events) (moved_id f events) events (sound_once events c.count-place-end.ensures.sound).ids c.loop-place.place e c.nth-event.ensures.event

pub loop-place-preserved : goal.loop-place-preserved
loop-place-preserved c =
    let f = image_of c.args.map.now in
    let events = c.args.events.now.list in
    let k = c.loop-place.place in
    let e = c.nth-event.result.now in
    let here = drop_item events k e c.nth-event.ensures.event ∙ ap (λ n. e ∷ drop n events) (sym (add-one k)) in
    let done = c.in_ok-move_at.ensures in
    record {
      agrees = done.agrees;
      pairs = done.pairs;
      due = done.due;
      may = done.may;
      calm = sym (calm_step f events e (drop (k + 1) events) done.calm) ∙ ap (first_of f events) (sym here) ∙ c.loop-place.invariant.calm;
      plan = rw add-one (done.changed
          ∙ ap (λ (p : Change). record p { after = changed (id_of e) (moved_event f events) p.after }) c.loop-place.invariant.plan
          ∙ ap (λ (es : List PlainEvent). record c.args.plan.now { after = es })
          (step_changed (moved_event f events) (moved_id f events) events (sound_once events c.count-place-end.ensures.sound).ids k e c.nth-event.ensures.event));
    }

pub returns-in_err-move_at-clause-fault : goal.returns-in_err-move_at-clause-fault
returns-in_err-move_at-clause-fault c =
    let f = image_of c.args.map.now in
    let events = c.args.events.now.list in
    let k = c.loop-place.place in
    let e = c.nth-event.result.now in
    let here = drop_item events k e c.nth-event.ensures.event ∙ ap (λ n. e ∷ drop n events) (sym (add-one k)) in
    let halt = c.in_err-move_at.field-0.0 in
    let p = err_from_is_err_and c.from_residual-in_err-move_at.result c.from_residual-in_err-move_at.ensures.1 in
    rw (p.1, p.2) (subst (λ (o : Option Fault). Reports o halt) (ap (first_of f events) (sym here) ∙ c.loop-place.invariant.calm)
    (reports_step f events e (drop (k + 1) events) halt c.in_err-move_at.ensures.fault))
