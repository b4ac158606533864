use Rattle.std.proofs.Common.{◌≤◌, ◌-◌, length}
use Rattle.plan_steps.specs.Flags.{FlagsSome}
use Rattle.plan_steps.proofs.sweeping.named_near.Given as goal

abbrev pub invariant-loop-place : goal.invariant-loop-place
invariant-loop-place l = record {
  within : l.place ≤ length l.removal.events;
  some : FlagsSome l.plan.after l.flags.items;
}

abbrev pub decreases-loop-place : goal.decreases-loop-place
decreases-loop-place l = length l.removal.events - l.place
