use Rattle.std.proofs.Common.{◌≡◌, length}
use Rattle.manifest_cache.specs.Kept.{AgreesWith}
use Rattle.selection_eval.specs.Paths.{blobs_at, has_path, tree_of}
use Rattle.selection_eval.proofs.PathMarks.{Marked}
use Rattle.selection_eval.proofs.trees.marks_in_trees.Given as goal

abbrev pub invariant-loop-place : goal.invariant-loop-place
invariant-loop-place g l =
    let es = l.events.list in
    let test = g.T.PathTest.test l.fn.test in
    record {
      count : length l.bits.items ≡ length es;
      marked : Marked (λ e. has_path test (tree_of es e)) (λ e. blobs_at test (tree_of es e)) es l.place l.bits.items;
      same : g.T.PathTest.test l.test ≡ test;
      agrees : AgreesWith es l.manifests;
    }
