use Rattle.reparent_laws.proofs.Merged.{merge_changes_one, unmerge_changes_one}
use Rattle.reparent_laws.proofs.Operated.{add_changes_one, remove_changes_one}
use Rattle.reparent_laws.proofs.ReparentDone.{done_changes_one}
use Rattle.reparent_laws.proofs.laws.one_commit_is_changed.Goals as goal

pub returns : goal.returns
returns k = record {
  reparent = λ use_order rebase set events new others c h sel d is. done_changes_one use_order rebase set events new h sel d others c is;
  merge = λ set events new low high h d two. merge_changes_one set events new h low high two d;
  unmerge = unmerge_changes_one;
  add = add_changes_one;
  remove = remove_changes_one;
}
