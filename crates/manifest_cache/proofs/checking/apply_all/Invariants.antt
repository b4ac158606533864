use Rattle.std.proofs.Common.{◌≡◌, ◌+◌, Some, drop}
use Rattle.plain_model.specs.Histories.{folded}
use Rattle.edit_laws.specs.Checking.{first_refused}
use Rattle.manifest_cache.proofs.checking.apply_all.Given as goal

abbrev pub invariant-loop-place : goal.invariant-loop-place
invariant-loop-place l = record {
  rest : folded l.ops (Some l.fn.tree) ≡ folded (drop l.place l.ops) (Some l.tree);
  refused : first_refused 1 l.ops l.fn.tree ≡ first_refused (l.place + 1) (drop l.place l.ops) l.tree;
}
