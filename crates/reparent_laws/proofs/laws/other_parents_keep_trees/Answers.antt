use Rattle.reparent_laws.proofs.Merged.{merge_keeps, unmerge_keeps}
use Rattle.reparent_laws.proofs.ReparentDone.{done_keeps}
use Rattle.reparent_laws.proofs.laws.other_parents_keep_trees.Goals as goal

pub returns : goal.returns
returns c = record {
  reparent = done_keeps;
  merge = merge_keeps;
  unmerge = unmerge_keeps;
}
