use Rattle.std.proofs.Common.{◌≡◌, ◌++◌, drop, map}
use Rattle.path_move_laws.specs.PathMaps.{image_of}
use Rattle.path_moves.proofs.collisions.images_of.Given as goal

abbrev pub invariant-loop-entry : goal.invariant-loop-entry
invariant-loop-entry l = record {
  rest : l.images.items ++ map (λ e. image_of l.how e.0) (drop l.entry-index l.entries) ≡ map (λ e. image_of l.how e.0) l.entries;
}
