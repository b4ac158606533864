use Rattle.std.proofs.Common.{◌≡◌, ◌++◌, flat_map, take}
use Rattle.manifest_cache.specs.Walks.{ops_at}
use Rattle.squash_delete.proofs.taking.push_ops_of.Given as goal

abbrev pub invariant-loop-commit : goal.invariant-loop-commit
invariant-loop-commit l = l.ops ≡ l.initial.ops ++ flat_map (ops_at l.list) (take l.commit-index l.commits)
