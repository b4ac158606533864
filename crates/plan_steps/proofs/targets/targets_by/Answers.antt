use Rattle.std.proofs.Common.{◌+◌, ◌<◌, add-one, arith, length, sym}
use Rattle.history_laws.proofs.Lists.{item_at}
use Rattle.squash_laws.specs.Takings.{moved}
use Rattle.plan_steps.proofs.NearPlaces.{moves_over}
use Rattle.plan_steps.proofs.TargetLemmas.{AreMovesTo, moves_all, moves_more, moves_same}
use Rattle.plan_steps.proofs.targets.targets_by.Goals as goal
use Rattle.plan_steps.proofs.targets.targets_by.Goals.{in-Some+in_ok-end_with, in_default}

pub loop-place-preserved : goal.loop-place-preserved
loop-place-preserved c =
    let events = c.args.removal.now.events in
    let set = c.args.removal.now.set in
    let goes_to = moved set events c.args.tags in
    let place = c.loop-place.place in
    let near = c.next_near-place-in-loop-place.ensures in
    let within : place < length events = let test = c.loop-place-test.true in let count = c.count-count.ensures.count in omega arith in
    let item = item_at events place within in
    let old = c.loop-place.table.items in
    let new = c.match-moved_target.table.items in
    let one_more : AreMovesTo set goes_to events (place + 1) new = elim c.match-moved_target.branch [
      | in-Some+in_ok-end_with w ↦
          rw (w.table-is, add-one) (moves_more set goes_to events place w.in-Some.target item.0 old w.end_with.new.table.items item.1
          (w.in-Some.ensures item.0 item.1) w.in_ok-end_with.ensures c.loop-place.invariant.moves)
      | in_default w ↦
          rw (w.table-is, add-one) (moves_same set goes_to events place item.0 old item.1 (sym (w.in_default.ensures item.0 item.1)) c.loop-place.invariant.moves)
    ] in
    record {
      within = near.within;
      moves = moves_over set events goes_to new (place + 1) c.next_near-place-in-loop-place.result near.later near.within near.apart one_more;
    }

pub returns : goal.returns
returns c =
    moves_all c.args.removal.now.set c.args.removal.now.events c.args.tags c.loop-place.place c.loop-place.table.items
    (let all = c.loop-place-test.false in let count = c.count-count.ensures.count in omega arith) c.loop-place.invariant.moves
