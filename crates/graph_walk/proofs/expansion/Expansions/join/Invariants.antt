use Rattle.std.proofs.Common.{◌≡◌, [], drop}
use Rattle.std.specs.Prelude.{map}
use Rattle.graph_walk.specs.Joined.{entry_of, joined_from}
use Rattle.graph_walk.proofs.expansion.Expansions.join.Given as goal

abbrev pub invariant-loop-commit : goal.invariant-loop-commit
invariant-loop-commit l =
    joined_from l.self.bounded l.gathered (map (entry_of l.self.entries l.events.list) (drop l.commit-index l.commits))
    ≡ joined_from l.self.bounded [] (map (entry_of l.self.entries l.events.list) l.commits)
