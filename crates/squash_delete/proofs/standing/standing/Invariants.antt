use Rattle.std.proofs.Common.{◌≡◌, [], flat_map, take}
use Rattle.edit_laws.specs.Removal.{expand}
use Rattle.graph_walk.specs.Joined.{with_all}
use Rattle.plain_model.specs.Histories.{past}
use Rattle.squash_laws.specs.Removed.{is_removed}
use Rattle.squash_delete.proofs.standing.standing.Given as goal

abbrev pub invariant-loop-commit : goal.invariant-loop-commit
invariant-loop-commit l =
    l.made ≡ with_all [] (flat_map (expand (is_removed l.removal.set) (past l.removal.events)) (take l.commit-index l.commits))
