use Rattle.std.proofs.Common.{◌≡◌, ◌≤◌, drop}
use Rattle.plain_model.specs.Text.{text}
use Rattle.stream_writer.specs.Sending.{IsOnItsWay, to_come}
use Rattle.stream_writer.proofs.writer.write_stream.Given as goal

abbrev pub invariant-loop-place : goal.invariant-loop-place
invariant-loop-place g l = record {
  way : IsOnItsWay (g.W.Sink.state l.fn.sink) (text l.events.list) (g.W.Sink.state l.sink) l.gathered (to_come l.events.list l.tips l.promised (drop l.place l.events.list));
  later : (g.W.Sink.state l.fn.sink).faults ≤ (g.W.Sink.state l.sink).faults;
  quiet : (g.W.Sink.state l.sink).faults ≡ (g.W.Sink.state l.fn.sink).faults;
  around : (g.W.Sink.state l.sink).around ≡ (g.W.Sink.state l.fn.sink).around;
}
