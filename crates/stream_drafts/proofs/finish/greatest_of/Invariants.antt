use Rattle.std.proofs.Common.{◌≡◌, ◌≤◌, take}
use Rattle.plain_model.specs.declared.limit.TheConstants.{MAX_MARK}
use Rattle.plain_model.specs.Lookups.{greatest_of}
use Rattle.stream_grammar.specs.Known.{alias_marks}
use Rattle.stream_drafts.proofs.finish.greatest_of.Given as goal

abbrev pub invariant-loop-mark : goal.invariant-loop-mark
invariant-loop-mark l = record {
  value : l.greatest ≡ greatest_of l.fn.first (alias_marks (take l.mark-index l.aliases));
  range : l.greatest ≤ MAX_MARK;
}
