use Rattle.std.proofs.Common.{sym}
use Rattle.graph_walk.proofs.OrderLemmas.{before_place}
use Rattle.graph_walk.proofs.settling.is_before.Goals as goal

pub returns-in-Some : goal.returns-in-Some
returns-in-Some c = before_place c.args.plan.now.after c.args.place c.in-Some.at c.args.id (sym c.in-Some.ensures.place)
