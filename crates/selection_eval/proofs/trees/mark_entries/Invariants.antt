use Rattle.std.proofs.Common.{◌≡◌, Some, length, take}
use Rattle.event_sets.specs.Bits.{Adds}
use Rattle.selection_eval.specs.Paths.{blobs_at, has_path}
use Rattle.selection_eval.proofs.trees.mark_entries.Given as goal

abbrev pub invariant-loop-entry : goal.invariant-loop-entry
invariant-loop-entry g l =
    let test = g.T.PathTest.test l.fn.test in
    let seen = take l.entry-index l.entries in
    record {
      has : l.has ≡ has_path test (Some seen);
      count : length l.bits.items ≡ length l.fn.bits.items;
      adds : Adds l.events.list (blobs_at test (Some seen)) l.fn.bits.items l.bits.items;
      same : g.T.PathTest.test l.test ≡ test;
    }
