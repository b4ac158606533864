use Rattle.std.proofs.Common.{◌≤◌, length}
use Rattle.plan_steps.specs.Ways.{AreForwardFrom}
use Rattle.plan_steps.proofs.ways.ways_forward.Given as goal

abbrev pub invariant-loop-near : goal.invariant-loop-near
invariant-loop-near l = record {
  within : l.place ≤ length l.removal.events;
  forward : AreForwardFrom l.removal.set l.removal.events l.place l.ways.items;
}

abbrev pub decreases-loop-near : goal.decreases-loop-near
decreases-loop-near l = l.place
