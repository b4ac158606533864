use Rattle.std.proofs.Common.{◌∙◌, ◌+◌, length, sym, ap, add-one, arith, subst}
use Rattle.plain_model.specs.Lookups.{event_marks, find_event, id_of}
use Rattle.plain_model.specs.Soundness.{IsSound}
use Rattle.event_arena.specs.Changes.{changed}
use Rattle.event_arena.specs.Graphs.{Change}
use Rattle.history_laws.proofs.SoundOnce.{sound_once}
use Rattle.renumbering.specs.Renumbered.{marked_from}
use Rattle.renumbering.proofs.Sound.{sound_again}
use Rattle.renumbering.proofs.Steps.{changed_so_far, found_so_far, next_fits, next_more, next_at, so_far_all}
use Rattle.renumbering.proofs.numbering.give_all.Goals as goal

pub give_marks-requires-clause-there : goal.give_marks-requires-clause-there
give_marks-requires-clause-there c =
    let events = c.args.events.now.list in
    let e = c.nth.result.now in
    ap (find_event (id_of e)) c.loop-place.invariant.after ∙ found_so_far events c.loop-place.place e c.nth.ensures.event (sound_once events c.count-place-end.ensures.sound).ids

pub give_marks-requires-clause-fits : goal.give_marks-requires-clause-fits
give_marks-requires-clause-fits c =
    let fits = next_fits c.args.events.now.list c.loop-place.place c.nth.result.now c.nth.ensures.event c.count-place-end.ensures.sound in
    let next = c.loop-place.invariant.next in
    omega arith

pub loop-place-preserved : goal.loop-place-preserved
loop-place-preserved c =
    let v = c.loop-place.invariant in
    let events = c.args.events.now.list in
    let e = c.nth.result.now in
    let is = c.nth.ensures.event in
    let given = c.in_ok-next.ensures.given in
    rw add-one (record {
      before = ap (λ (p : Change). p.before) given ∙ v.before;
      after = ap (λ (p : Change). p.after) given ∙ ap (λ n. changed (id_of e) (marked_from n) c.loop-place.plan.after) v.next ∙ ap (changed (id_of e) (marked_from (next_at c.loop-place.place events))) v.after
          ∙ changed_so_far events c.loop-place.place e is (sound_once events c.count-place-end.ensures.sound).ids;
      made_at = ap (λ (p : Change). p.made_at) given ∙ v.made_at;
      given = ap (λ (p : Change). p.next) given ∙ v.given;
      next = c.in_ok-next.ensures.next ∙ ap (λ n. n + length (event_marks e)) v.next ∙ sym (next_more events c.loop-place.place e is);
    })

pub returns-clause-sound : goal.returns-clause-sound
returns-clause-sound c =
    let events = c.args.events.now.list in
    subst IsSound (sym (c.loop-place.invariant.after ∙ so_far_all events c.loop-place.place (let all = c.loop-place-test.false in let count = c.count-place-end.ensures.count in omega arith))) (sound_again events c.count-place-end.ensures.sound)
