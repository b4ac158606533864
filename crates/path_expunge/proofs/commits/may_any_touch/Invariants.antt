use Rattle.std.proofs.Common.{◌≡◌, drop}
use Rattle.std.specs.List.{list_any}
use Rattle.expunge_laws.specs.Untouched.{may_touch}
use Rattle.expunge_laws.specs.Matching.{matched_by}
use Rattle.path_expunge.proofs.commits.may_any_touch.Given as goal

abbrev pub invariant-loop-op : goal.invariant-loop-op
invariant-loop-op l = record {
  same : l.matching ≡ l.fn.matching;
  rest : list_any (may_touch (matched_by l.fn.matching)) (drop l.op-index l.ops) ≡ list_any (may_touch (matched_by l.fn.matching)) l.ops;
}
