use Rattle.std.proofs.Common.{◌≡◌, ◌-◌, length, drop}
use Rattle.stream_builder.specs.Keeping.{AreEarlier}
use Rattle.stream_builder.specs.Lines.{along}
use Rattle.stream_builder.proofs.draft_trees.trees.folded_along.Given as goal

abbrev pub invariant-loop-after : goal.invariant-loop-after
invariant-loop-after l = record {
  made : l.made ≡ along l.drafts (drop (length l.line - l.after) l.line) l.fn.base;
  earlier : AreEarlier l.drafts l.kept;
}
