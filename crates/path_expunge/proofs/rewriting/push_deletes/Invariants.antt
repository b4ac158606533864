use Rattle.std.proofs.Common.{◌≡◌, ◌++◌, drop, not}
use Rattle.expunge_laws.specs.Replaced.{deletes_of, restricted}
use Rattle.plain_model.specs.Trees.{has, where_path}
use Rattle.expunge_laws.specs.Matching.{matched_by}
use Rattle.path_expunge.proofs.rewriting.push_deletes.Given as goal

abbrev pub invariant-loop-entry : goal.invariant-loop-entry
invariant-loop-entry l = record {
  same : l.matching ≡ l.fn.matching;
  rest : l.made ++ deletes_of (where_path (λ p. not (has l.new p)) (restricted (matched_by l.fn.matching) (drop l.entry-index l.old)))
      ≡ l.fn.made ++ deletes_of (where_path (λ p. not (has l.new p)) (restricted (matched_by l.fn.matching) l.old));
}
