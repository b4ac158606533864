use Rattle.std.proofs.Common.{◌↔◌}
use Rattle.std.specs.Prelude.{IsSome}
use Rattle.manifest_cache.specs.Following.{HasSameLine}
use Rattle.manifest_cache.specs.Lines.{line, size}
use Rattle.manifest_cache.proofs.following.has_same_line.Given as goal

abbrev pub invariant-loop-known : goal.invariant-loop-known
invariant-loop-known l = record {
  there : IsSome (line l.plan.before l.at);
  same : HasSameLine l.plan.before l.plan.after l.at ↔ HasSameLine l.plan.before l.plan.after l.fn.commit;
}

abbrev pub decreases-loop-known : goal.decreases-loop-known
decreases-loop-known l = size (line l.plan.before l.at)
