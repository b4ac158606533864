use Rattle.std.proofs.Common.{take}
use Rattle.plan_steps.specs.Flags.{FlagsNamed}
use Rattle.plan_steps.proofs.sweeping.named_after.Given as goal

abbrev pub invariant-loop-place : goal.invariant-loop-place
invariant-loop-place l = FlagsNamed l.plan.after (take l.place l.plan.after) l.flags.items
