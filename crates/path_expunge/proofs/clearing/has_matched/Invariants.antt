use Rattle.std.proofs.Common.{◌≡◌, drop}
use Rattle.expunge_laws.specs.Replaced.{has_matched}
use Rattle.expunge_laws.specs.Matching.{matched_by}
use Rattle.path_expunge.proofs.clearing.has_matched.Given as goal

abbrev pub invariant-loop-entry : goal.invariant-loop-entry
invariant-loop-entry l = record {
  same : l.matching ≡ l.fn.matching;
  rest : has_matched (matched_by l.fn.matching) (drop l.entry-index l.entries) ≡ has_matched (matched_by l.fn.matching) l.entries;
}
