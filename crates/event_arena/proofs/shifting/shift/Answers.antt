use Rattle.std.proofs.Common.{◌≤◌, arith, length}
use Rattle.event_arena.proofs.ShiftLemmas.{come_children}
use Rattle.event_arena.proofs.shifting.shift.Goals as goal

pub returns-clause-children : goal.returns-clause-children
returns-clause-children c =
    let ended = c.loop-place-test.false in
    let all : length c.args.after.now ≤ c.loop-place.place = omega arith in
    λ yes. come_children c.loop-place.place c.args.before.now c.args.after.now c.args.links.now.lists c.loop-place.links.lists all c.loop-place.invariant.come c.requires.children
