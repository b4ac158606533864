use Rattle.std.proofs.Common.{◌≡◌, drop, length}
use Rattle.manifest_cache.specs.Kept.{AgreesWith}
use Rattle.path_move_laws.specs.Moves.{first_of, moved_event}
use Rattle.path_move_laws.specs.PathMaps.{image_of}
use Rattle.plan_steps.proofs.Steps.{so_far}
use Rattle.path_moves.specs.Commits.{AreKept, MayMoveTo}
use Rattle.path_moves.proofs.commits.move_ops.Given as goal

abbrev pub invariant-loop-place : goal.invariant-loop-place
invariant-loop-place l = record {
  agrees : AgreesWith l.events.list l.manifests;
  pairs : AreKept (image_of l.map) l.events.list l.kept.pairs.items;
  due : length l.kept.due.items ≡ length l.events.list;
  may : MayMoveTo (image_of l.map) l.events.list l.place;
  calm : first_of (image_of l.map) l.events.list (drop l.place l.events.list) ≡ first_of (image_of l.map) l.events.list l.events.list;
  plan : l.plan ≡ record l.initial.plan { after = so_far (moved_event (image_of l.map) l.events.list) l.place l.events.list };
}
