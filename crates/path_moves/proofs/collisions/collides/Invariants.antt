use Rattle.std.proofs.Common.{◌≡◌, drop}
use Rattle.path_moves.specs.Collisions.{collides_in}
use Rattle.path_moves.proofs.Meeting.{met}
use Rattle.path_moves.proofs.collisions.collides.Given as goal

abbrev pub invariant-loop-other : goal.invariant-loop-other
invariant-loop-other l = record {
  rest : met l.is_seen l.image (drop l.other-index l.images) ≡ collides_in l.images l.image;
}
