use Rattle.std.proofs.Common.{◌≡◌, take}
use Rattle.graph_walk.specs.Joined.{with_all}
use Rattle.squash_delete.proofs.standing.add_all.Given as goal

abbrev pub invariant-loop-commit : goal.invariant-loop-commit
invariant-loop-commit l = l.made ≡ with_all l.initial.made (take l.commit-index l.commits)
