use Rattle.std.proofs.Common.{◌≤◌, ◌-◌, filter, length, take}
use Rattle.plain_model.specs.Lookups.{id_of, is_listed}
use Rattle.plan_steps.specs.Flags.{FlagsAll}
use Rattle.plan_steps.proofs.sweeping.are_all_flagged.Given as goal

abbrev pub invariant-loop-place : goal.invariant-loop-place
invariant-loop-place l = record {
  within : l.place ≤ length l.removal.events;
  flagged : FlagsAll l.plan.after (filter (λ e. is_listed (id_of e) l.removal.set) (take l.place l.removal.events)) l.flags;
}

abbrev pub decreases-loop-place : goal.decreases-loop-place
decreases-loop-place l = length l.removal.events - l.place
