use Rattle.std.proofs.Common.{◌≡◌, ◌++◌, drop}
use Rattle.std.specs.Prelude.{flat_map}
use Rattle.plain_model.specs.Text.{op_text}
use Rattle.stream_writer.proofs.operations.push_ops.Given as goal

abbrev pub invariant-loop-op : goal.invariant-loop-op
invariant-loop-op l = l.out ++ flat_map (op_text l.history.list) (drop l.op-index l.ops) ≡ l.fn.out ++ flat_map (op_text l.history.list) l.ops
