use Rattle.std.proofs.Common.{◌∙◌, ◌+◌, List, add-one, arith, length, sym, ap, subst}
use Rattle.plain_model.specs.declared.event.PlainEvent.{PlainEvent}
use Rattle.plain_model.specs.declared.limit.TheConstants.{MAX_MARK}
use Rattle.plain_model.specs.Lookups.{AreIdsBelow, event_marks, referents_of}
use Rattle.event_arena.specs.Graphs.{Change}
use Rattle.graft_unite.specs.Appended.{with_event}
use Rattle.graft_unite.specs.Numbering.{AreThere, Numbering}
use Rattle.graft_unite.proofs.AppendLemmas.{marks_more, marks_within, refers_there, so_far_low, so_far_more}
use Rattle.graft_unite.proofs.NumberLemmas.{few_taken}
use Rattle.graft_unite.proofs.appending.append_part.Goals as goal

pub append_event-requires-clause-there : goal.append_event-requires-clause-there
append_event-requires-clause-there g c =
    let list = c.args.part.now.list in
    subst (λ (l : List PlainEvent). AreThere l (referents_of c.nth-event.result.now)) (sym c.in_ok-numbers.ensures.part)
    (refers_there list c.count-place-end.ensures.sound c.loop-place.place c.nth-event.result.now c.nth-event.ensures.event)

pub append_event-requires-clause-room : goal.append_event-requires-clause-room
append_event-requires-clause-room g c =
    let list = c.args.part.now.list in
    let test = c.loop-place-test.true in
    let count = c.count-place-end.ensures.count in
    let few = few_taken c.args.first list c.loop-place.place (omega arith) in
    let is = ap (λ (p : Change). p.next) c.loop-place.invariant.plan in
    let room = c.requires.room in
    omega arith

pub append_event-requires-clause-low : goal.append_event-requires-clause-low
append_event-requires-clause-low g c =
    let n : Numbering = record { part = c.args.part.now.list; first = c.args.first } in
    subst (λ (p : Change). AreIdsBelow p.next p.after) (sym c.loop-place.invariant.plan)
    (so_far_low (g.J.Join.joining c.args.how.now) n c.args.mark c.args.plan.now c.loop-place.place (subst (λ k. AreIdsBelow k c.args.plan.now.after) c.requires.first c.requires.low))

pub append_event-requires-clause-fits : goal.append_event-requires-clause-fits
append_event-requires-clause-fits g c =
    let within = marks_within c.args.mark c.args.part.now.list c.loop-place.place c.nth-event.result.now (MAX_MARK + 1) c.nth-event.ensures.event c.requires.fits in
    let is = c.loop-place.invariant.next in
    omega arith

pub mark_after-next-requires : goal.mark_after-next-requires
mark_after-next-requires g c =
    let within = marks_within c.args.mark c.args.part.now.list c.loop-place.place c.nth-event.result.now (MAX_MARK + 1) c.nth-event.ensures.event c.requires.fits in
    let is = c.loop-place.invariant.next in
    omega arith

pub loop-place-preserved : goal.loop-place-preserved
loop-place-preserved g c =
    let n : Numbering = record { part = c.args.part.now.list; first = c.args.first } in
    let how = g.J.Join.joining c.args.how.now in
    let e = c.nth-event.result.now in
    let v = c.loop-place.invariant in
    rw add-one (record {
      plan = c.in_ok-append_event.ensures
          ∙ (λ i. with_event how (record { part = c.in_ok-numbers.ensures.part i; first = c.in_ok-numbers.ensures.first i }) (v.next i) e (v.plan i))
          ∙ so_far_more how n c.args.mark c.args.plan.now c.loop-place.place e c.nth-event.ensures.event;
      next = c.mark_after-next.ensures ∙ ap (λ k. k + length (event_marks e)) v.next ∙ sym (marks_more c.args.mark c.args.part.now.list c.loop-place.place e c.nth-event.ensures.event);
    })
