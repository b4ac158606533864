use Rattle.std.proofs.Common.{◌+◌, add-one, arith}
use Rattle.plain_model.specs.declared.limit.TheConstants.{MAX_MARK}
use Rattle.graft_unite.proofs.AppendLemmas.{marks_more, marks_within}
use Rattle.graft_unite.proofs.limits.mark_behind.Goals as goal

pub returns-then-next-count : goal.returns-then-next-count
returns-then-next-count c fits =
    let within = marks_within c.args.first c.args.events.now.list c.loop-place.place c.nth.result.now (MAX_MARK + 1) c.nth.ensures.event fits in
    let over = c.if-next-count.true in
    let count = c.mark_count-count.ensures.count in
    let is = c.loop-place.invariant.next in
    let low = c.loop-place.invariant.low in
    omega arith

pub loop-place-preserved : goal.loop-place-preserved
loop-place-preserved c =
    let more = marks_more c.args.first c.args.events.now.list c.loop-place.place c.nth.result.now c.nth.ensures.event in
    let under = c.if-next-count.false in
    let count = c.mark_count-count.ensures.count in
    let is = c.loop-place.invariant.next in
    let low = c.loop-place.invariant.low in
    rw add-one (record { next = omega arith; low = omega arith })
