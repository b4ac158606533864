use Rattle.std.proofs.Common.{◌≡◌}
use Rattle.path_move_laws.specs.ByName.{named_event}
use Rattle.path_move_laws.specs.PathMaps.{image_of}
use Rattle.plan_steps.proofs.Steps.{so_far}
use Rattle.path_moves.proofs.by_name.name_ops.Given as goal

abbrev pub invariant-loop-place : goal.invariant-loop-place
invariant-loop-place l = l.plan ≡ record l.initial.plan { after = so_far (named_event (image_of l.map)) l.place l.events.list }
