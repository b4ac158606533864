use Rattle.std.proofs.Common.{[], arith, add-one, subst}
use Rattle.std.proofs.lemmas.Bool.{OnTrue_at}
use Rattle.event_arena.proofs.ListLemmas.{take_all}
use Rattle.edit_laws.specs.Parts.{AreInOrder}
use Rattle.history_laws.proofs.Lists.{item_at}
use Rattle.graph_walk.proofs.OrderLemmas.{ready_item}
use Rattle.graph_walk.proofs.settling.is_settled.Goals as goal

pub loop-place-preserved : goal.loop-place-preserved
loop-place-preserved c =
    let events = c.args.plan.now.after in
    let place = c.loop-place.place in
    let item = item_at events place (let test = c.loop-place-test.true in let count = c.count-place-end.ensures.count in omega arith) in
    rw add-one (ready_item events place item.0 item.1 c.loop-place.invariant (OnTrue_at c.if-not-is_ready_at.false (c.is_ready_at.ensures item.0 item.1)))

pub returns : goal.returns
returns c =
    let events = c.args.plan.now.after in
    let all = take_all events c.loop-place.place (let end = c.loop-place-test.false in let count = c.count-place-end.ensures.count in omega arith) in
    c.settling_orders.ensures.stays events (subst (AreInOrder []) all c.loop-place.invariant)
