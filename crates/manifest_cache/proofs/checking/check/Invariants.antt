use Rattle.std.proofs.Common.{take}
use Rattle.manifest_cache.specs.Checking.{HaveTrees}
use Rattle.manifest_cache.specs.Kept.{AgreesWith}
use Rattle.manifest_cache.proofs.checking.check.Given as goal

abbrev pub invariant-loop-place : goal.invariant-loop-place
invariant-loop-place l = record {
  have : HaveTrees l.plan.after (take l.place l.plan.after);
  made : AgreesWith l.plan.after l.made.entries;
}
