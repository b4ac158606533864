use Rattle.std.proofs.Common.{◌≡◌, ◌++◌, drop, not, filter}
use Rattle.expunge_laws.specs.Replaced.{has_entry, restricted}
use Rattle.plain_model.specs.Trees.{at}
use Rattle.expunge_laws.specs.Matching.{matched_by}
use Rattle.path_expunge.proofs.rewriting.push_new_entries.Given as goal
use Rattle.edit_laws.specs.Puts.{puts_of}

abbrev pub invariant-loop-entry : goal.invariant-loop-entry
invariant-loop-entry l = record {
  same : l.matching ≡ l.fn.matching;
  rest : l.made ++ puts_of (filter (λ e. not (has_entry (at l.old e.0) e.1)) (restricted (matched_by l.fn.matching) (drop l.entry-index l.new)))
      ≡ l.fn.made ++ puts_of (filter (λ e. not (has_entry (at l.old e.0) e.1)) (restricted (matched_by l.fn.matching) l.new));
}
