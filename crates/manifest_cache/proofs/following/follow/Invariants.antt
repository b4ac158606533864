use Rattle.std.proofs.Common.{◌≡◌, ◌-◌, length}
use Rattle.std.specs.Prelude.{IfSome}
use Rattle.manifest_cache.specs.Following.{IsKnown}
use Rattle.manifest_cache.proofs.Sifting.{Sifts}
use Rattle.manifest_cache.proofs.following.follow.Given as goal

abbrev pub invariant-loop-turns : goal.invariant-loop-turns
invariant-loop-turns l = record {
  sifts : Sifts l.plan.before l.plan.after l.initial.kept.entries l.kept.entries (length l.initial.kept.entries - l.turns);
  known : IfSome l.known (IsKnown l.plan.before l.plan.after);
  cap : l.kept.cap ≡ l.initial.kept.cap;
  all : l.count ≡ length l.initial.kept.entries;
}
