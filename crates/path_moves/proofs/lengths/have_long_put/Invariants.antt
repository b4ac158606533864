use Rattle.std.proofs.Common.{◌≡◌, drop}
use Rattle.std.specs.List.{list_any}
use Rattle.path_move_laws.specs.LongPuts.{is_long_put}
use Rattle.path_move_laws.specs.PathMaps.{image_of}
use Rattle.path_move_laws.specs.declared.path_map.PathMap.TheVariants.{Sub}
use Rattle.path_moves.proofs.lengths.have_long_put.Given as goal

abbrev pub invariant-loop-op : goal.invariant-loop-op
invariant-loop-op l = list_any (is_long_put (image_of (Sub l.folder))) (drop l.op-index l.ops) ≡ list_any (is_long_put (image_of (Sub l.folder))) l.ops
