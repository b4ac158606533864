use Rattle.std.proofs.Common.{◌≡◌, ◌≤◌, ◌-◌, ℕ, List, length, map}
use Rattle.squash_laws.specs.Removed.{Takings}
use Rattle.plan_steps.specs.Leaving.{staying, with_takings}
use Rattle.plan_steps.specs.Passes.{moved_to}
use Rattle.plan_steps.specs.Targets.{AreMoves}
use Rattle.squash_delete.proofs.moving.move_all.Given as goal

abbrev pub invariant-loop-place : goal.invariant-loop-place
invariant-loop-place l = record {
  within : l.place ≤ length l.removal.events;
  moved : (par : List ℕ → List ℕ) (takes : Takings) → AreMoves l.removal.set takes.target l.removal.events l.targets →
      l.initial.plan.after ≡ map (with_takings par takes) (staying l.removal.set takes l.removal.events) →
      l.plan ≡ record l.initial.plan { after = moved_to l.removal.set par takes l.place l.removal.events };
}

abbrev pub decreases-loop-place : goal.decreases-loop-place
decreases-loop-place l = length l.removal.events - l.place
