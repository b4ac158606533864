use Rattle.std.proofs.Common.{◌≡◌, length}
use Rattle.std.specs.List.{list_any}
use Rattle.std.specs.Prelude.{flat_map}
use Rattle.selection_eval.specs.Paths.{ops_of, put_at, touches}
use Rattle.selection_eval.proofs.PathMarks.{Marked}
use Rattle.selection_eval.proofs.paths.marks_at_paths.Given as goal

abbrev pub invariant-loop-place : goal.invariant-loop-place
invariant-loop-place g l =
    let es = l.events.list in
    let test = g.T.PathTest.test l.fn.test in
    record {
      count : length l.bits.items ≡ length es;
      marked : Marked (λ e. list_any (touches test) (ops_of e)) (λ e. flat_map (put_at test) (ops_of e)) es
          l.place l.bits.items;
      same : g.T.PathTest.test l.test ≡ test;
    }
