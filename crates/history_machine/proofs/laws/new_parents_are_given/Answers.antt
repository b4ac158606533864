use Rattle.std.proofs.Common.{◌≡◌, Ok, subst}
use Rattle.event_sets.specs.Sets.{Ids}
use Rattle.reparent_laws.specs.Merge.{merge_of, unmerge_of}
use Rattle.reparent_laws.specs.Reparent.{reparent_of}
use Rattle.script_reader.specs.declared.command.Command.TheVariants as command
use Rattle.script_reader.specs.declared.edit.Edit.TheVariants as edit
use Rattle.script_reader.specs.declared.options.Reparenting.{Reparenting}
use Rattle.history_machine.specs.Changed.{Merges, Reparents, Unmerges}
use Rattle.history_machine.proofs.Changes.{chosen_changes, numbered}
use Rattle.history_machine.proofs.Ready.{chosen_lawful, ready_live, ready_once}
use Rattle.history_machine.proofs.Selections.{selection_of}
use Rattle.history_machine.proofs.laws.new_parents_are_given.Goals as goal

pub returns-clause-reparent : goal.returns-clause-reparent
returns-clause-reparent c = λ denial s files selection use_order rebase t done lawful.
    let how : Reparenting = record { use_order = use_order; rebase = rebase } in
    let what = command.Edit selection (edit.Reparent how) in
    chosen_changes (Reparents use_order rebase) denial s files selection (edit.Reparent how) t done
    (λ subject repo made ready is made_is.
    let sound = (chosen_lawful s repo is lawful).history.sound in
    let new = numbered repo.next (reparent_of use_order rebase subject.ids repo.history) made made_is in
    let once = ready_once c.sound_histories_are_such.ensures.ids c.selections_are_without_repeats.ensures denial s what subject lawful ready in
    let lives = ready_live c.selections_are_live.ensures c.sound_histories_are_such.ensures.tips denial s what subject lawful ready repo is in
    let set = selection_of repo.history subject.ids once lives in
    let all = c.a_reparent_has_a_last_commit.ensures use_order rebase subject.ids repo.history made.history sound set new.0 in
    record {
      next = new.1;
      ids = c.a_change_keeps_the_ids.ensures.reparent use_order rebase subject.ids repo.history made.history sound set new.0;
      others = all.0;
      last = all.1;
      are = all.2;
      events = c.one_commit_is_changed.ensures.reparent use_order rebase subject.ids repo.history made.history all.0 all.1 sound set new.0 all.2;
    })

pub returns-clause-merge : goal.returns-clause-merge
returns-clause-merge c = λ denial s files selection t done lawful.
    chosen_changes Merges denial s files selection edit.Merge t done
    (λ subject repo made ready is made_is.
    let sound = (chosen_lawful s repo is lawful).history.sound in
    let new = numbered repo.next (merge_of subject.ids repo.history) made made_is in
    let two = c.a_merge_is_of_two_commits.ensures.merge subject.ids repo.history made.history new.0 in
    record {
      next = new.1;
      ids = c.a_change_keeps_the_ids.ensures.merge subject.ids repo.history made.history new.0;
      low = two.0;
      high = two.1;
      are = two.2;
      events = c.one_commit_is_changed.ensures.merge subject.ids repo.history made.history two.0 two.1 sound new.0 two.2;
    })

pub returns-clause-unmerge : goal.returns-clause-unmerge
returns-clause-unmerge c = λ denial s files selection t done lawful.
    chosen_changes Unmerges denial s files selection edit.Unmerge t done
    (λ subject repo made ready is made_is.
    let sound = (chosen_lawful s repo is lawful).history.sound in
    let new = numbered repo.next (unmerge_of subject.ids repo.history) made made_is in
    let one = c.a_merge_is_of_two_commits.ensures.unmerge subject.ids repo.history made.history new.0 in
    record {
      next = new.1;
      ids = c.a_change_keeps_the_ids.ensures.unmerge subject.ids repo.history made.history new.0;
      commit = one.0;
      only = one.1;
      events = c.one_commit_is_changed.ensures.unmerge one.0 repo.history made.history sound (subst (λ (ids : Ids). unmerge_of ids repo.history ≡ Ok made.history) one.1 new.0);
    })
