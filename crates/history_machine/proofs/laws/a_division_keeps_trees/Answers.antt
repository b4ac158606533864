use Rattle.script_reader.specs.declared.command.Command.TheVariants as command
use Rattle.history_machine.specs.Several.{after_dividing, halves_of}
use Rattle.history_machine.specs.Steps.{carried}
use Rattle.history_machine.proofs.Joined.{changed_to, divided}
use Rattle.history_machine.proofs.Ready.{chosen_lawful}
use Rattle.history_machine.proofs.Steps.{with_its_subject}
use Rattle.history_machine.proofs.laws.a_division_keeps_trees.Goals as goal

pub returns : goal.returns
unfolding carried
returns c = λ denial s files selection t h lawful.
    let done = with_its_subject denial s files (command.Divide selection) t h in
    let ids = done.0.ids in
    let its = divided s ids t.session (changed_to (after_dividing s (halves_of ids)) t done.1) in
    let sound = (chosen_lawful s its.0 its.2 lawful).history.sound in
    record {
      subject = done.0;
      old = its.0;
      halves = its.1;
      speaks = done.2;
      is_chosen = its.2;
      made = its.3;
      alone = λ commit there. c.an_event_goes_with_what_it_refers_to.ensures.commits ids its.0.history its.1 commit its.3 there;
      early = c.halves_keep_trees.ensures.early ids its.0.history its.1 sound its.3;
      late = c.halves_keep_trees.ensures.late ids its.0.history its.1 sound its.3;
      rest = its.4;
    }
