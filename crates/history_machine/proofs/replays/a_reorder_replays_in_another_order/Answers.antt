use Rattle.reorder_laws.specs.Reorder.{reorder_of}
use Rattle.script_reader.specs.declared.command.Command.TheVariants as command
use Rattle.script_reader.specs.declared.edit.Edit.TheVariants as edit
use Rattle.history_machine.specs.Changed.{Reorders}
use Rattle.history_machine.proofs.Changes.{chosen_changes, numbered}
use Rattle.history_machine.proofs.Ready.{chosen_lawful, ready_live, ready_once}
use Rattle.history_machine.proofs.Selections.{selection_of}
use Rattle.history_machine.proofs.replays.a_reorder_replays_in_another_order.Goals as goal

pub returns : goal.returns
returns c = λ denial s files selection t done lawful.
    let what = command.Edit selection edit.Reorder in
    chosen_changes Reorders denial s files selection edit.Reorder t done
    (λ subject repo made ready is made_is.
    let sound = (chosen_lawful s repo is lawful).history.sound in
    let new = numbered repo.next (reorder_of subject.ids repo.history) made made_is in
    let once = ready_once c.sound_histories_are_such.ensures.ids c.selections_are_without_repeats.ensures denial s what subject lawful ready in
    let lives = ready_live c.selections_are_live.ensures c.sound_histories_are_such.ensures.tips denial s what subject lawful ready repo is in
    let set = selection_of repo.history subject.ids once lives in
    record {
      next = new.1;
      ids = c.a_reorder_keeps_the_ids.ensures subject.ids repo.history made.history sound set new.0;
      order = c.a_line_is_put_in_order.ensures subject.ids repo.history made.history sound set new.0;
      trees = c.a_reorder_replays_operations.ensures.trees subject.ids repo.history made.history sound set new.0;
    })
