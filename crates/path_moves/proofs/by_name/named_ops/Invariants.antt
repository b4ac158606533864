use Rattle.std.proofs.Common.{◌≡◌, map, take}
use Rattle.path_move_laws.specs.MovedOps.{mapped_op}
use Rattle.path_move_laws.specs.PathMaps.{image_of}
use Rattle.path_moves.proofs.by_name.named_ops.Given as goal

abbrev pub invariant-loop-place : goal.invariant-loop-place
invariant-loop-place l = l.made ≡ map (mapped_op (image_of l.how)) (take l.place l.ops)
