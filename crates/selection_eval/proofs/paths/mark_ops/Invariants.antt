use Rattle.std.proofs.Common.{◌≡◌, length, take}
use Rattle.std.specs.List.{list_any}
use Rattle.std.specs.Prelude.{flat_map}
use Rattle.event_sets.specs.Bits.{Adds}
use Rattle.selection_eval.specs.Paths.{put_at, touches}
use Rattle.selection_eval.proofs.paths.mark_ops.Given as goal

abbrev pub invariant-loop-op : goal.invariant-loop-op
invariant-loop-op g l =
    let test = g.T.PathTest.test l.fn.test in
    let seen = take l.op-index l.ops in
    record {
      touched : l.touched ≡ list_any (touches test) seen;
      count : length l.bits.items ≡ length l.fn.bits.items;
      adds : Adds l.events.list (flat_map (put_at test) seen) l.fn.bits.items l.bits.items;
      same : g.T.PathTest.test l.test ≡ test;
    }
