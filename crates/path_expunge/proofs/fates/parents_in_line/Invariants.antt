use Rattle.std.proofs.Common.{◌≡◌, [], flat_map, take}
use Rattle.std.specs.Prelude.{option_to_list}
use Rattle.graph_walk.specs.Joined.{with_all}
use Rattle.squash_laws.specs.Takings.{back_of}
use Rattle.path_expunge.proofs.fates.parents_in_line.Given as goal

abbrev pub invariant-loop-parent : goal.invariant-loop-parent
invariant-loop-parent l =
    l.made ≡ with_all [] (flat_map (λ p. option_to_list (back_of l.removal.set l.removal.events p)) (take l.parent-index l.parents))
