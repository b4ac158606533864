use Rattle.std.proofs.Common.{◌≡◌, ℕ, Bool, filter, length, map, take}
use Rattle.divide_laws.specs.Sides.{is_commit_among}
use Rattle.plan_steps.specs.Flags.{FlagsNamed}
use Rattle.repo_divide.proofs.naming.named.Given as goal

abbrev pub invariant-loop-place : goal.invariant-loop-place
invariant-loop-place l = record {
  count : length l.flags.items ≡ length l.plan.after;
  named : (has : ℕ → Bool) → l.commits ≡ map (is_commit_among has) l.plan.after → FlagsNamed l.plan.after (filter (is_commit_among has) (take l.place l.plan.after)) l.flags.items;
}
