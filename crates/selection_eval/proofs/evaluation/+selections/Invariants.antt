use Rattle.std.proofs.Common.{◌≡◌, ◌≤◌, ℕ, Result, drop, map}
use Rattle.std.specs.Prelude.{IfSome, option_map}
use Rattle.plain_model.specs.declared.fault.Halt.{Halt}
use Rattle.event_sets.specs.declared.set.EventSet.{EventSet}
use Rattle.manifest_cache.specs.Kept.{AgreesWith}
use Rattle.selection_parser.specs.Plain.{in_order}
use Rattle.std.proofs.Common.{IsTrue}
use Rattle.std.specs.List.{All}
use Rattle.selection_parser.specs.Texts.{has_utf8_texts}
use Rattle.selection_parser.specs.Views.{plain_of}
use Rattle.selection_eval.specs.Denoted.{join_of, joined}
use Rattle.selection_eval.specs.Turning.{JudgesSet, turn}
use Rattle.selection_eval.proofs.evaluation.+selections.Given as goal

abbrev pub invariant-joined-loop-one : goal.invariant-joined-loop-one
invariant-joined-loop-one g l = record {
  events : IfSome l.so_far (λ set. set.events ≡ l.events.list);
  agrees : AgreesWith l.events.list l.manifests;
  grows : g.P.Patterns.sizes l.fn.patterns ≤ g.P.Patterns.sizes l.patterns;
  rest : All (λ one. IsTrue (has_utf8_texts (plain_of one))) l.all → (r : Result EventSet Halt) (now : ℕ) →
      JudgesSet (g.P.Patterns.sizes l.patterns) now r
      (turn (join_of l.wants_both) (option_map (λ (set : EventSet). set.ids) l.so_far) (in_order (map plain_of (drop l.one-index l.all))) l.events.list l.names) →
      JudgesSet (g.P.Patterns.sizes l.fn.patterns) now r
      (joined (join_of l.wants_both) (in_order (map plain_of l.all)) l.events.list l.names);
}
