use Rattle.std.proofs.Common.{◌≡◌, drop}
use Rattle.plain_model.specs.Trees.{apply_all}
use Rattle.stream_builder.proofs.draft_trees.folding.apply_all.Given as goal

abbrev pub invariant-loop-op : goal.invariant-loop-op
invariant-loop-op l = apply_all l.ops l.fn.tree ≡ apply_all (drop l.op-index l.ops) l.tree
