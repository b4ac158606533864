use Rattle.reparent_laws.proofs.Merged.{merge_ids, unmerge_ids}
use Rattle.reparent_laws.proofs.Operated.{add_ids, remove_ids}
use Rattle.reparent_laws.proofs.ReparentDone.{done_ids}
use Rattle.reparent_laws.proofs.laws.a_change_keeps_the_ids.Goals as goal

pub returns : goal.returns
returns c = record {
  reparent = done_ids;
  merge = merge_ids;
  unmerge = unmerge_ids;
  add = add_ids;
  remove = remove_ids;
}
