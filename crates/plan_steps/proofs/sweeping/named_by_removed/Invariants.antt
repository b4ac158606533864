use Rattle.std.proofs.Common.{◌≤◌, ◌-◌, filter, length, take}
use Rattle.plain_model.specs.Lookups.{id_of, is_listed}
use Rattle.plan_steps.specs.Flags.{FlagsNamed}
use Rattle.plan_steps.proofs.sweeping.named_by_removed.Given as goal

abbrev pub invariant-loop-place : goal.invariant-loop-place
invariant-loop-place l = record {
  within : l.place ≤ length l.removal.events;
  named : FlagsNamed l.plan.after (filter (λ e. is_listed (id_of e) l.removal.set) (take l.place l.removal.events)) l.flags.items;
}

abbrev pub decreases-loop-place : goal.decreases-loop-place
decreases-loop-place l = length l.removal.events - l.place
