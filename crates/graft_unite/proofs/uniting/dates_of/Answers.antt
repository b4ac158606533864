use Rattle.std.proofs.Common.{List, ℕ, add-one, ap, arith, subst, sym, take}
use Rattle.plain_model.specs.declared.event.PlainEvent.{PlainEvent}
use Rattle.event_arena.proofs.ListLemmas.{take_all, take_item}
use Rattle.graft_unite.specs.Dates.{AreDatesOf, latest_in}
use Rattle.graft_unite.proofs.uniting.dates_of.Goals as goal

pub loop-place-init : goal.loop-place-init
loop-place-init c seconds = ap (λ (es : List (ℕ × ℕ)). latest_in es seconds) c.new-dates.ensures

pub loop-place-preserved : goal.loop-place-preserved
loop-place-preserved c =
    let list = c.args.events.now.list in
    let k = c.loop-place.place in
    rw add-one (subst (λ (l : List PlainEvent). AreDatesOf l c.note.new.self) (sym (take_item list k c.nth.result.now c.nth.ensures.event)) (c.in_ok-note.ensures (take k list) c.loop-place.invariant))

pub returns : goal.returns
returns c =
    let count = c.count-place-end.ensures.count in
    let end = c.loop-place-test.false in
    subst (λ (l : List PlainEvent). AreDatesOf l c.loop-place.dates) (take_all c.args.events.now.list c.loop-place.place (omega arith)) c.loop-place.invariant
