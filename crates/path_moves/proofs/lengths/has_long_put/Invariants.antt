use Rattle.std.proofs.Common.{◌≡◌, drop}
use Rattle.std.specs.List.{list_any}
use Rattle.path_move_laws.specs.LongPuts.{has_long_put}
use Rattle.path_move_laws.specs.PathMaps.{image_of}
use Rattle.path_move_laws.specs.declared.path_map.PathMap.TheVariants.{Sub}
use Rattle.path_moves.proofs.lengths.has_long_put.Given as goal

abbrev pub invariant-loop-place : goal.invariant-loop-place
invariant-loop-place l = list_any (has_long_put (image_of (Sub l.folder))) (drop l.place l.events.list) ≡ list_any (has_long_put (image_of (Sub l.folder))) l.events.list
