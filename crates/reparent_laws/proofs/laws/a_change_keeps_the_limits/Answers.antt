use Rattle.reparent_laws.proofs.Merged.{merge_limits, unmerge_limits}
use Rattle.reparent_laws.proofs.Operated.{add_limits, remove_limits}
use Rattle.reparent_laws.proofs.ReparentDone.{done_limits}
use Rattle.reparent_laws.proofs.laws.a_change_keeps_the_limits.Goals as goal

pub returns : goal.returns
returns c = record {
  reparent = done_limits;
  merge = merge_limits;
  unmerge = unmerge_limits;
  add = add_limits;
  remove = λ what set events new h within d. remove_limits what set events new h d within;
}
