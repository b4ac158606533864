use Rattle.std.proofs.Common.{◌≡◌, map, drop}
use Rattle.expunge_laws.specs.Matching.{matched_by}
use Rattle.path_expunge.specs.Tests.{sought}
use Rattle.path_expunge.proofs.matching.Matching.matches.Given as goal

abbrev pub invariant-loop-place : goal.invariant-loop-place
invariant-loop-place l = record {
  same : map sought l.self-inside.tests.items ≡ map sought l.initial.self-inside.tests.items;
  count : l.self-inside.tests.len ≡ l.place-end;
  rest : matched_by (drop l.place (map sought l.initial.self-inside.tests.items)) l.path ≡ matched_by (map sought l.initial.self-inside.tests.items) l.path;
}
