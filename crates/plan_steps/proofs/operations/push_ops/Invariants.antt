use Rattle.std.proofs.Common.{◌≡◌, ◌++◌, take}
use Rattle.plan_steps.proofs.operations.push_ops.Given as goal

abbrev pub invariant-loop-op : goal.invariant-loop-op
invariant-loop-op l = l.ops ≡ l.initial.ops ++ take l.op-index l.more
