use Rattle.std.proofs.Common.{◌≡◌, ◌∙◌, ◌<◌, List, Bool, false, add-one, arith, ap, get_or, length, refl, sym}
use Rattle.std.specs.List.{list_any}
use Rattle.std.proofs.lemmas.List.{get_or_read, length-map}
use Rattle.plain_model.specs.declared.event.PlainEvent.{PlainEvent}
use Rattle.plain_model.specs.Lookups.{event_ops, find_event, id_of}
use Rattle.event_arena.specs.Changes.{changed}
use Rattle.event_arena.specs.Graphs.{Change}
use Rattle.history_laws.proofs.Lists.{item_at}
use Rattle.history_laws.proofs.SoundOnce.{sound_once}
use Rattle.expunge_laws.specs.Apart.{event_without}
use Rattle.path_expunge.specs.Apart.{takes}
use Rattle.path_expunge.proofs.LeavingLemmas.{none_left_out, without_id}
use Rattle.plan_steps.proofs.Steps.{kept_of, step_changed, step_found}
use Rattle.plan_steps.proofs.Tables.{map_at}
use Rattle.path_expunge.proofs.leaving.leave_out.Goals as goal
use Rattle.path_expunge.proofs.leaving.leave_out.Goals.{then-index+in_ok-leave_out_at, else-index}

pub leave_out_at-requires-clause-found : goal.leave_out_at-requires-clause-found
leave_out_at-requires-clause-found c e at =
    let events = c.args.events.now.list in
    let test = takes c.args.noted.now.paths in
    ap (λ (p : Change). find_event (id_of e) p.after) c.loop-place.invariant
    ∙ step_found (event_without test) (without_id test) events (sound_once events c.count-place-end.ensures.sound).ids c.loop-place.place e at

pub loop-place-preserved : goal.loop-place-preserved
loop-place-preserved c =
    let events = c.args.events.now.list in
    let test = takes c.args.noted.now.paths in
    let g = event_without test in
    let place = c.loop-place.place in
    let old = c.loop-place.plan in
    let once = (sound_once events c.count-place-end.ensures.sound).ids in
    let item = item_at events place (let test = c.loop-place-test.true in let count = c.count-place-end.ensures.count in omega arith) in
    let e = item.0 in
    let goes_on = ap (λ (p : Change). record p { after = changed (id_of e) g p.after }) c.loop-place.invariant
    ∙ ap (λ (es : List PlainEvent). record c.args.plan.now { after = es }) (step_changed g (without_id test) events once place e item.1) in
    rw add-one (elim c.if-index.branch [
      | then-index+in_ok-leave_out_at w ↦ w.plan-is ∙ w.in_ok-leave_out_at.ensures e item.1 ∙ goes_on
      | else-index w ↦
          let there = ap (λ (p : Change). find_event (id_of e) p.after) c.loop-place.invariant ∙ step_found g (without_id test) events once place e item.1 in
          let are = c.requires.touched in
          let low : place < length c.args.noted.now.flags.touched.items =
          let count = ap length are ∙ length-map events (λ x. list_any test (event_ops x)) in
          let all = c.count-place-end.ensures.count in let within = c.loop-place-test.true in omega arith in
          let none : list_any test (event_ops e) ≡ false =
          sym (ap (λ (fs : List Bool). get_or fs place false) are ∙ map_at (λ x. list_any test (event_ops x)) events place e item.1)
          ∙ sym (get_or_read c.args.noted.now.flags.touched.items place c.index.result.now low c.index.ensures false) ∙ w.if-index.false in
          w.plan-is ∙ kept_of old e e g refl there (none_left_out test e none) ∙ goes_on
    ])
