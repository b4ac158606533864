use Rattle.std.proofs.Common.{◌≤◌, ◌-◌, length}
use Rattle.plan_steps.proofs.NearPlaces.{AreReadyTo}
use Rattle.plan_steps.proofs.ordering.are_near_settled.Given as goal

abbrev pub invariant-loop-place : goal.invariant-loop-place
invariant-loop-place l = record {
  within : l.place ≤ length l.removal.events;
  ready : AreReadyTo l.removal.set l.removal.events l.plan.after l.place;
}

abbrev pub decreases-loop-place : goal.decreases-loop-place
decreases-loop-place l = length l.removal.events - l.place
