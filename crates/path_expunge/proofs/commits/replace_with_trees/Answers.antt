use Rattle.std.proofs.Common.{◌≡◌, ◌≤◌, ◌∙◌, ◌++◌, ◌∷◌, [], List, ap, add-one, append-nil, arith, length, map, subst, sym}
use Rattle.std.proofs.Math.ListN.{drop_of_length-le}
use Rattle.plain_model.specs.declared.event.PlainEvent.{PlainEvent}
use Rattle.plain_model.specs.Lookups.{find_event, id_of}
use Rattle.event_arena.specs.Changes.{changed}
use Rattle.event_arena.specs.Graphs.{Change}
use Rattle.history_laws.proofs.SoundOnce.{sound_once}
use Rattle.expunge_laws.specs.Expunged.{replaced_event}
use Rattle.expunge_laws.specs.Matching.{Matches, matched_by}
use Rattle.expunge_laws.specs.Untouched.{may_be_touched}
use Rattle.event_arena.proofs.ListLemmas.{take_all}
use Rattle.plan_steps.specs.Flags.{FlagsNamed}
use Rattle.plan_steps.proofs.Tables.{map_push}
use Rattle.path_expunge.proofs.KeptNames.{named_at_places}
use Rattle.path_expunge.proofs.Nodes.{replaced_id}
use Rattle.plan_steps.proofs.Steps.{step_changed, step_found}
use Rattle.path_expunge.proofs.commits.replace_with_trees.Goals as goal

pub replace_at-requires-clause-found : goal.replace_at-requires-clause-found
replace_at-requires-clause-found c =
    let events = c.args.events.now.list in
    let m = matched_by c.args.matching.now in
    let e = c.nth.result.now in
    ap (λ (p : Change). find_event (id_of e) p.after) c.loop-place.invariant.plan
    ∙ step_found (replaced_event m events) (replaced_id m events) events (sound_once events c.count-place-end.ensures.sound).ids c.loop-place.place e c.nth.ensures.event

pub loop-place-preserved : goal.loop-place-preserved
loop-place-preserved c =
    let events = c.args.events.now.list in
    let m = matched_by c.args.matching.now in
    let e = c.nth.result.now in
    record {
      same = c.in_ok-is_touched.ensures.same ∙ c.loop-place.invariant.same;
      kept = c.in_ok-is_touched.ensures.kept;
      plan = rw add-one (c.in_ok-is_touched.ensures.changed
          ∙ ap (λ (ms : List Matches). record c.loop-place.plan { after = changed (id_of e) (replaced_event (matched_by ms) events) c.loop-place.plan.after }) c.loop-place.invariant.same
          ∙ ap (λ (p : Change). record p { after = changed (id_of e) (replaced_event m events) p.after }) c.loop-place.invariant.plan
          ∙ ap (λ (es : List PlainEvent). record c.args.plan.now { after = es })
          (step_changed (replaced_event m events) (replaced_id m events) events (sound_once events c.count-place-end.ensures.sound).ids c.loop-place.place e c.nth.ensures.event));
      touched = rw add-one (c.in_ok-push.ensures.items
          ∙ (λ i. c.loop-place.invariant.touched i ++ (c.in_ok-is_touched.ensures.touched ∙ ap (λ (ms : List Matches). may_be_touched (matched_by ms) e) c.loop-place.invariant.same) i ∷ [])
          ∙ sym (map_push (may_be_touched m) events c.loop-place.place e c.nth.ensures.event));
    }

pub returns-clause-touched : goal.returns-clause-touched
returns-clause-touched c =
    let events = c.args.events.now.list in
    c.loop-place.invariant.touched
    ∙ ap (map (may_be_touched (matched_by c.args.matching.now))) (take_all events c.loop-place.place (let all = c.loop-place-test.false in let count = c.count-place-end.ensures.count in omega arith))

pub returns-clause-named : goal.returns-clause-named
returns-clause-named c =
    let events = c.args.events.now.list in
    let m = matched_by c.args.matching.now in
    let g = replaced_event m events in
    let count : length events ≤ c.loop-place.place = let all = c.loop-place-test.false in let count = c.count-place-end.ensures.count in omega arith in
    let after : c.loop-place.plan.after ≡ map g events =
    ap (λ (p : Change). p.after) c.loop-place.invariant.plan
    ∙ (λ i. map g (take_all events c.loop-place.place count i) ++ drop_of_length-le events count i) ∙ append-nil (map g events) in
    named_at_places m events (map g events) c.in_ok-named.named.items
    (subst (λ (es : List PlainEvent). FlagsNamed es es c.in_ok-named.named.items) after c.in_ok-named.ensures)
