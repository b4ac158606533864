use Rattle.std.proofs.Common.{◌≡◌, true, take}
use Rattle.graph_walk.proofs.OrderLemmas.{named_all}
use Rattle.graph_walk.proofs.settling.is_after.Given as goal

abbrev pub invariant-loop-slot : goal.invariant-loop-slot
invariant-loop-slot l = named_all (take l.place l.plan.after) l.event l.slot ≡ true
