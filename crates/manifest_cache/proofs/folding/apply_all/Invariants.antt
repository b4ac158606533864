use Rattle.std.proofs.Common.{◌≡◌, ◌+◌, ◌≤◌, Some, drop}
use Rattle.plain_model.specs.Histories.{folded}
use Rattle.manifest_cache.proofs.folding.apply_all.Given as goal

abbrev pub invariant-loop-op : goal.invariant-loop-op
invariant-loop-op g l = record {
  rest : folded l.ops (Some l.fn.tree) ≡ folded (drop l.op-index l.ops) (Some l.tree);
  counted : l.steps ≤ l.fn.steps + l.op-index;
}
