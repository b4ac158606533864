use Rattle.std.proofs.Common.{◌≡◌, flat_map, take}
use Rattle.manifest_cache.specs.Walks.{ops_at}
use Rattle.coalesce_simplify.proofs.chains.ops_after.Given as goal

abbrev pub invariant-loop-commit : goal.invariant-loop-commit
invariant-loop-commit l = l.ops ≡ flat_map (ops_at l.events.list) (take l.commit-index l.commits)
