use Rattle.plan_steps.specs.Ways.{AreBackTo}
use Rattle.plan_steps.proofs.ways.ways_back.Given as goal

abbrev pub invariant-loop-place : goal.invariant-loop-place
invariant-loop-place l = AreBackTo l.removal.set l.removal.events l.place l.ways.items
