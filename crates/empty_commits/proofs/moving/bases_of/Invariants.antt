use Rattle.std.proofs.Common.{◌≡◌, [], map, take}
use Rattle.graph_walk.specs.Joined.{with_all}
use Rattle.tagify_laws.specs.Tagify.{base_of}
use Rattle.empty_commits.proofs.moving.bases_of.Given as goal

abbrev pub invariant-loop-commit : goal.invariant-loop-commit
invariant-loop-commit l = l.made ≡ with_all [] (map (base_of l.empties.set l.empties.events) (take l.commit-index l.commits))
