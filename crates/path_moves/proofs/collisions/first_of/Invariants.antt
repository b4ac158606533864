use Rattle.std.proofs.Common.{take}
use Rattle.path_moves.specs.Collisions.{IsLeast}
use Rattle.path_moves.proofs.collisions.first_of.Given as goal

abbrev pub invariant-loop-image : goal.invariant-loop-image
invariant-loop-image l = IsLeast l.images (take l.image-index l.images) l.first
