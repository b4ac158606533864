use Rattle.std.proofs.Common.{◌≤◌, ℕ, List, Result, drop}
use Rattle.plain_model.specs.declared.fault.Halt.{Halt}
use Rattle.expunge_laws.specs.Matching.{Matches}
use Rattle.history_machine.specs.PathWords.{matches_of}
use Rattle.load_list.proofs.PathWords.{AreJudged, after_others}
use Rattle.load_list.proofs.path_words.matchers_of.Given as goal

abbrev pub invariant-loop-word : goal.invariant-loop-word
invariant-loop-word g l = record {
  grows : g.P.Patterns.sizes l.fn.patterns ≤ g.P.Patterns.sizes l.patterns;
  rest : (r : Result (List Matches) Halt) (now : ℕ)
      → AreJudged (g.P.Patterns.sizes l.patterns) now r (after_others l.matchers (drop l.word-index l.words))
      → AreJudged (g.P.Patterns.sizes l.fn.patterns) now r (matches_of l.words);
}
