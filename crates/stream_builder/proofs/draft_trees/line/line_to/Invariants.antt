use Rattle.plain_model.specs.Histories.{tree}
use Rattle.stream_builder.specs.Lines.{IsLine}
use Rattle.stream_builder.proofs.draft_trees.line.line_to.Given as goal

abbrev pub invariant-loop-line : goal.invariant-loop-line
invariant-loop-line l = IsLine l.drafts l.fn.commit l.line (tree l.drafts l.at)

abbrev pub decreases-loop-line : goal.decreases-loop-line
decreases-loop-line l = l.at
