use Rattle.reparent_laws.proofs.Merged.{merge_adds_nothing, unmerge_adds_nothing}
use Rattle.reparent_laws.proofs.Operated.{add_adds_nothing, remove_adds_nothing}
use Rattle.reparent_laws.proofs.ReparentDone.{done_adds_nothing}
use Rattle.reparent_laws.proofs.laws.nothing_is_added.Goals as goal

pub returns : goal.returns
returns c = record {
  reparent = done_adds_nothing;
  merge = merge_adds_nothing;
  unmerge = unmerge_adds_nothing;
  add = λ spelled set events new h its fits d. add_adds_nothing spelled set events new h its fits d;
  remove = remove_adds_nothing;
}
