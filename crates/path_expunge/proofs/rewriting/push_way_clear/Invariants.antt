use Rattle.std.proofs.Common.{◌≡◌, ◌++◌, drop}
use Rattle.expunge_laws.specs.Replaced.{deletes_of, restricted}
use Rattle.plain_model.specs.Paths.{do_conflict}
use Rattle.plain_model.specs.Trees.{where_path}
use Rattle.expunge_laws.specs.Matching.{matched_by}
use Rattle.path_expunge.proofs.rewriting.push_way_clear.Given as goal

abbrev pub invariant-loop-entry : goal.invariant-loop-entry
invariant-loop-entry l = record {
  same : l.matching ≡ l.fn.matching;
  rest : l.made ++ deletes_of (where_path (do_conflict l.path) (restricted (matched_by l.fn.matching) (drop l.entry-index l.entry-items)))
      ≡ l.fn.made ++ deletes_of (where_path (do_conflict l.path) (restricted (matched_by l.fn.matching) l.old));
}
