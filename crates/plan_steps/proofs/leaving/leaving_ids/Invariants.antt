use Rattle.std.proofs.Common.{◌≡◌, ◌≤◌, ◌-◌, filter, length, map, take}
use Rattle.plain_model.specs.Lookups.{id_of}
use Rattle.plan_steps.specs.Leaving.{goes}
use Rattle.plan_steps.specs.Targets.{AreMoves}
use Rattle.squash_laws.specs.Removed.{Takings}
use Rattle.plan_steps.proofs.leaving.leaving_ids.Given as goal

abbrev pub invariant-loop-place : goal.invariant-loop-place
invariant-loop-place l = record {
  within : l.place ≤ length l.removal.events;
  going : (takes : Takings) → AreMoves l.removal.set takes.target l.removal.events l.targets →
      l.ids ≡ map id_of (filter (goes l.removal.set takes) (take l.place l.removal.events));
}

abbrev pub decreases-loop-place : goal.decreases-loop-place
decreases-loop-place l = length l.removal.events - l.place
