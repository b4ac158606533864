use Rattle.reparent_laws.proofs.Merged.{merge_sound, unmerge_sound}
use Rattle.reparent_laws.proofs.Operated.{add_sound, remove_sound}
use Rattle.reparent_laws.proofs.ReparentDone.{done_sound}
use Rattle.reparent_laws.proofs.laws.a_change_keeps_soundness.Goals as goal

pub returns : goal.returns
returns c = record {
  reparent = λ use_order rebase set events new h sel d. done_sound use_order rebase set events new h sel d;
  merge = merge_sound;
  unmerge = unmerge_sound;
  add = λ spelled set events new h its fits d. add_sound spelled set events new h its fits d;
  remove = λ what set events new h d. remove_sound what set events new h d;
}
