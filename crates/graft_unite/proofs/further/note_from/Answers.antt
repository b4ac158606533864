use Rattle.std.proofs.Common.{List, add-one, arith, subst, sym, take}
use Rattle.plain_model.specs.declared.event.PlainEvent.{PlainEvent}
use Rattle.event_arena.proofs.ListLemmas.{take_all, take_item}
use Rattle.graft_unite.specs.Dates.{AreDatesOf}
use Rattle.graft_unite.specs.Used.{AreNamesOf}
use Rattle.graft_unite.proofs.NameLemmas.{noted_more}
use Rattle.graft_unite.proofs.further.note_from.Goals as goal

pub loop-place-preserved : goal.loop-place-preserved
loop-place-preserved c =
    let after = c.args.plan.now.after in
    let k = c.loop-place.place in
    let e = c.nth-event.result.now in
    rw add-one (record {
      names = λ h. noted_more after k e c.loop-place.used c.note.new.self c.nth-event.ensures.event (c.loop-place.invariant.names h) c.in_ok-note.ensures;
      dates = λ h. subst (λ (l : List PlainEvent). AreDatesOf l c.note-in-loop-place.new.self) (sym (take_item after k e c.nth-event.ensures.event))
          (c.in_ok-note-2.ensures (take k after) (c.loop-place.invariant.dates h));
    })

pub returns-clause-names : goal.returns-clause-names
returns-clause-names c h =
    let count = c.count-place-end.ensures.count in
    let end = c.loop-place-test.false in
    subst (λ (l : List PlainEvent). AreNamesOf l c.loop-place.used) (take_all c.args.plan.now.after c.loop-place.place (omega arith)) (c.loop-place.invariant.names h)

pub returns-clause-dates : goal.returns-clause-dates
returns-clause-dates c h =
    let count = c.count-place-end.ensures.count in
    let end = c.loop-place-test.false in
    subst (λ (l : List PlainEvent). AreDatesOf l c.loop-place.dates) (take_all c.args.plan.now.after c.loop-place.place (omega arith)) (c.loop-place.invariant.dates h)
