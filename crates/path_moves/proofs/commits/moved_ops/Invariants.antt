use Rattle.std.proofs.Common.{◌≡◌, ◌+◌, ◌++◌, drop}
use Rattle.plain_model.specs.Trees.{apply_all}
use Rattle.path_move_laws.specs.MovedOps.{first_fault, moved_all}
use Rattle.path_move_laws.specs.PathMaps.{image_of}
use Rattle.path_moves.specs.Pairs.{ArePaired}
use Rattle.path_moves.proofs.commits.moved_ops.Given as goal

abbrev pub invariant-loop-place : goal.invariant-loop-place
invariant-loop-place l = record {
  paired : ArePaired (image_of l.map) l.pair.tree l.pair.image;
  applied : apply_all (drop l.place l.ops) l.pair.tree ≡ apply_all l.ops l.fn.begun.tree;
  whole : l.made ++ moved_all (image_of l.map) (drop l.place l.ops) l.pair.tree ≡ moved_all (image_of l.map) l.ops l.fn.begun.tree;
  calm : first_fault (image_of l.map) l.mark (l.place + 1) (drop l.place l.ops) l.pair.tree ≡ first_fault (image_of l.map) l.mark 1 l.ops l.fn.begun.tree;
}
