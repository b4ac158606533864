use Rattle.std.proofs.Common.{◌≡◌, drop}
use Rattle.expunge_laws.specs.Replaced.{restricted}
use Rattle.squash_laws.specs.Takings.{is_none}
use Rattle.expunge_laws.specs.Matching.{matched_by}
use Rattle.path_expunge.proofs.clearing.are_all_matched.Given as goal

abbrev pub invariant-loop-entry : goal.invariant-loop-entry
invariant-loop-entry l = record {
  same : l.matching ≡ l.fn.matching;
  rest : is_none (restricted (matched_by l.fn.matching) (drop l.entry-index l.entries)) ≡ is_none (restricted (matched_by l.fn.matching) l.entries);
}
