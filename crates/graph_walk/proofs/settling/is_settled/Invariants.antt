use Rattle.std.proofs.Common.{[], take}
use Rattle.edit_laws.specs.Parts.{AreInOrder}
use Rattle.graph_walk.proofs.settling.is_settled.Given as goal

abbrev pub invariant-loop-place : goal.invariant-loop-place
invariant-loop-place l = AreInOrder [] (take l.place l.plan.after)
