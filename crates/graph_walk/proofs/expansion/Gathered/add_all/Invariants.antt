use Rattle.std.proofs.Common.{◌≡◌, take}
use Rattle.graph_walk.specs.Joined.{with_all}
use Rattle.graph_walk.proofs.expansion.Gathered.add_all.Given as goal

abbrev pub invariant-loop-commit : goal.invariant-loop-commit
invariant-loop-commit l =
    l.self-inside.commits.keys ≡ with_all l.initial.self-inside.commits.keys (take l.commit-index l.commits)
