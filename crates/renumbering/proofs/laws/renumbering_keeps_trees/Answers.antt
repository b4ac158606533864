use Rattle.std.proofs.Common.{[]}
use Rattle.renumbering.proofs.Kept.{tree_same, shown_same, refs_same}
use Rattle.renumbering.proofs.laws.renumbering_keeps_trees.Goals as goal

pub returns : goal.returns
returns c = record { trees = tree_same 1; shown = shown_same 1; refs = refs_same 1 [] }
