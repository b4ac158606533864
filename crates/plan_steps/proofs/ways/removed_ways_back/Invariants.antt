use Rattle.std.proofs.Common.{◌≤◌, ◌-◌, length}
use Rattle.plan_steps.specs.Ways.{AreBackOfRemovedTo}
use Rattle.plan_steps.proofs.ways.removed_ways_back.Given as goal

abbrev pub invariant-loop-place : goal.invariant-loop-place
invariant-loop-place l = record {
  within : l.place ≤ length l.removal.events;
  back : AreBackOfRemovedTo l.removal.set l.removal.events l.place l.ways.items;
}

abbrev pub decreases-loop-place : goal.decreases-loop-place
decreases-loop-place l = length l.removal.events - l.place
