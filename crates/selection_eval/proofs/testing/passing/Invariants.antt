use Rattle.std.proofs.Common.{◌≡◌, map, take}
use Rattle.selection_eval.proofs.testing.passing.Given as goal

abbrev pub invariant-loop-place : goal.invariant-loop-place
invariant-loop-place g l = record {
  bits : l.bits.items ≡ map (g.T.EventTest.test l.fn.test) (take l.place l.events.list);
  same : g.T.EventTest.test l.test ≡ g.T.EventTest.test l.fn.test;
}
