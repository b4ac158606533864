use Rattle.std.proofs.Common.{◌≤◌, ◌-◌, length}
use Rattle.squash_laws.specs.Takings.{moved}
use Rattle.plan_steps.proofs.TargetLemmas.{AreMovesTo}
use Rattle.plan_steps.proofs.targets.targets_by.Given as goal

abbrev pub invariant-loop-place : goal.invariant-loop-place
invariant-loop-place l = record {
  within : l.place ≤ length l.removal.events;
  moves : AreMovesTo l.removal.set (moved l.removal.set l.removal.events l.tags) l.removal.events l.place l.table.items;
}

abbrev pub decreases-loop-place : goal.decreases-loop-place
decreases-loop-place l = length l.removal.events - l.place
