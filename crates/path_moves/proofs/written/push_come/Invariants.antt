use Rattle.std.proofs.Common.{◌≡◌, ◌++◌, drop, not, filter}
use Rattle.expunge_laws.specs.Replaced.{has_entry}
use Rattle.edit_laws.specs.Puts.{puts_of}
use Rattle.plain_model.specs.Trees.{at}
use Rattle.path_moves.proofs.written.push_come.Given as goal

abbrev pub invariant-loop-entry : goal.invariant-loop-entry
invariant-loop-entry l = record {
  rest : l.made ++ puts_of (filter (λ e. not (has_entry (at l.old e.0) e.1)) (drop l.entry-index l.new))
      ≡ l.fn.made ++ puts_of (filter (λ e. not (has_entry (at l.old e.0) e.1)) l.new);
}
