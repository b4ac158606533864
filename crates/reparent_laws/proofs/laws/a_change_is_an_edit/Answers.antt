use Rattle.edit_laws.proofs.Edits.{edit_without, fewer_below}
use Rattle.reparent_laws.specs.Merge.{merge_of, unmerge_of}
use Rattle.reparent_laws.specs.Operations.{add_of, remove_of}
use Rattle.reparent_laws.specs.Reparent.{reparent_of}
use Rattle.reparent_laws.proofs.Merged.{merge_adds_nothing, merge_limits, merge_sound, unmerge_adds_nothing, unmerge_limits, unmerge_sound}
use Rattle.reparent_laws.proofs.Operated.{add_adds_nothing, add_limits, add_sound, remove_adds_nothing, remove_limits, remove_sound}
use Rattle.reparent_laws.proofs.ReparentDone.{done_adds_nothing, done_limits, done_sound}
use Rattle.reparent_laws.proofs.laws.a_change_is_an_edit.Goals as goal

pub returns : goal.returns
returns c = record {
  reparent = λ use_order rebase. edit_without (λ set events. reparent_of use_order rebase set events) (λ set events new h selection d. (
    record {
      sound = done_sound use_order rebase set events new h.sound selection d;
      within = done_limits use_order rebase set events new h.sound selection d;
    },
    λ next below. fewer_below events new next (done_adds_nothing use_order rebase set events new h.sound selection d).ids below,
  ));
  merge = edit_without (λ set events. merge_of set events) (λ set events new h selection d. (
    record { sound = merge_sound set events new h.sound d; within = merge_limits set events new d },
    λ next below. fewer_below events new next (merge_adds_nothing set events new d).ids below,
  ));
  unmerge = edit_without (λ set events. unmerge_of set events) (λ set events new h selection d. (
    record { sound = unmerge_sound set events new h.sound d; within = unmerge_limits set events new h.sound h.within d },
    λ next below. fewer_below events new next (unmerge_adds_nothing set events new d).ids below,
  ));
  add = λ spelled its fits. edit_without (λ set events. add_of spelled set events) (λ set events new h selection d. (
    record {
      sound = add_sound spelled set events new h.sound its fits d;
      within = add_limits spelled set events new h.sound its fits d;
    },
    λ next below. fewer_below events new next (add_adds_nothing spelled set events new h.sound its fits d).ids below,
  ));
  remove = λ what. edit_without (λ set events. remove_of what set events) (λ set events new h selection d. (
    record {
      sound = remove_sound what set events new h.sound d;
      within = remove_limits what set events new h.sound d h.within;
    },
    λ next below. fewer_below events new next (remove_adds_nothing what set events new h.sound d).ids below,
  ));
}
