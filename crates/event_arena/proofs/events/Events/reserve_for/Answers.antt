use Rattle.std.proofs.Common.{ap, arith}
use Rattle.event_arena.specs.Graphs.{Graph}
use Rattle.event_arena.proofs.WeightLemmas.{need_weight}
use Rattle.event_arena.proofs.events.Events.reserve_for.Goals as goal

pub returns-in_ok-reserve-2-clause-ok : goal.returns-in_ok-reserve-2-clause-ok
returns-in_ok-reserve-2-clause-ok c =
    let weighed = need_weight c.args.plan.now.after in
    let most = c.in-Some.ensures in
    omega arith

pub returns-else-self-room-clause-ok : goal.returns-else-self-room-clause-ok
returns-else-self-room-clause-ok c =
    let weighed = need_weight c.args.plan.now.after in
    let most = c.in-Some.ensures in
    let same = ap (λ (g : Graph). g.room) c.self.view_is in
    let room = c.if-self-room.false in
    omega arith
