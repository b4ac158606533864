use Rattle.std.proofs.Common.{true}
use Rattle.reparent_laws.specs.Reparent.{reparent_of}
use Rattle.script_reader.specs.declared.command.Command.TheVariants as command
use Rattle.script_reader.specs.declared.edit.Edit.TheVariants as edit
use Rattle.script_reader.specs.declared.options.Reparenting.{Reparenting}
use Rattle.history_machine.specs.Changed.{Rebases}
use Rattle.history_machine.proofs.Changes.{chosen_changes, numbered}
use Rattle.history_machine.proofs.Ready.{chosen_lawful, ready_live, ready_once}
use Rattle.history_machine.proofs.Selections.{selection_of}
use Rattle.history_machine.proofs.replays.a_rebase_replays_on_other_parents.Goals as goal

pub returns : goal.returns
returns c = λ denial s files selection use_order t done lawful.
    let how : Reparenting = record { use_order = use_order; rebase = true } in
    let what = command.Edit selection (edit.Reparent how) in
    chosen_changes (Rebases use_order) denial s files selection (edit.Reparent how) t done
    (λ subject repo made ready is made_is.
    let sound = (chosen_lawful s repo is lawful).history.sound in
    let new = numbered repo.next (reparent_of use_order true subject.ids repo.history) made made_is in
    let once = ready_once c.sound_histories_are_such.ensures.ids c.selections_are_without_repeats.ensures denial s what subject lawful ready in
    let lives = ready_live c.selections_are_live.ensures c.sound_histories_are_such.ensures.tips denial s what subject lawful ready repo is in
    let set = selection_of repo.history subject.ids once lives in
    let all = c.a_reparent_has_a_last_commit.ensures use_order true subject.ids repo.history made.history sound set new.0 in
    record {
      parents = record {
        next = new.1;
        ids = c.a_change_keeps_the_ids.ensures.reparent use_order true subject.ids repo.history made.history sound set new.0;
        others = all.0;
        last = all.1;
        are = all.2;
        events = c.one_commit_is_changed.ensures.reparent use_order true subject.ids repo.history made.history all.0 all.1 sound set new.0 all.2;
      };
      trees = c.a_rebase_replays_operations.ensures.trees use_order subject.ids repo.history made.history sound set new.0;
    })
