use Rattle.std.proofs.Common.{◌≡◌, ◌++◌, drop, Some}
use Rattle.expunge_laws.specs.Replaced.{replaced_all}
use Rattle.plain_model.specs.Histories.{folded}
use Rattle.plain_model.specs.Trees.{IsTree}
use Rattle.expunge_laws.specs.Matching.{matched_by}
use Rattle.path_expunge.proofs.replacing.replaced_all.Given as goal

abbrev pub invariant-loop-op : goal.invariant-loop-op
invariant-loop-op l = record {
  same : l.matching ≡ l.fn.matching;
  tree : IsTree l.tree;
  trees : folded l.ops (Some l.fn.begun) ≡ folded (drop l.op-index l.ops) (Some l.tree);
  rest : l.made ++ replaced_all (matched_by l.fn.matching) (drop l.op-index l.ops) l.tree ≡ replaced_all (matched_by l.fn.matching) l.ops l.fn.begun;
}
