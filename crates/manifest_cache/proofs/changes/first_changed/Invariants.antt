use Rattle.std.proofs.Common.{◌≡◌, take}
use Rattle.manifest_cache.specs.Checking.{links}
use Rattle.manifest_cache.proofs.changes.first_changed.Given as goal

abbrev pub invariant-loop-place : goal.invariant-loop-place
invariant-loop-place l = links (take l.place l.plan.before) ≡ links (take l.place l.plan.after)
