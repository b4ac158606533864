use Rattle.std.proofs.Common.{◌≡◌, ◌≤◌, ◌-◌, ◌++◌, length, take, Some}
use Rattle.std.specs.Prelude.{IfSome}
use Rattle.surgeon_store.proofs.writing.write_all.Given as goal

abbrev pub invariant-loop : goal.invariant-loop
invariant-loop g l = record {
  within : l.at ≤ length l.bytes;
  on : length l.bytes - l.at ≤ length l.bytes - l.counter;
  put : IfSome (g.W.Sink.state l.fn.sink).written (λ w. (g.W.Sink.state l.sink).written ≡ Some (w ++ take l.at l.bytes));
  later : (g.W.Sink.state l.fn.sink).faults ≤ (g.W.Sink.state l.sink).faults;
  quiet : (g.W.Sink.state l.sink).faults ≡ (g.W.Sink.state l.fn.sink).faults;
  around : (g.W.Sink.state l.sink).around ≡ (g.W.Sink.state l.fn.sink).around;
}
