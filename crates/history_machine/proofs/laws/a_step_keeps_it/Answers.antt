use Rattle.expunge_laws.specs.Matching.{matched_by}
use Rattle.history_machine.proofs.Commands.{Laws, line_keeps, step_keeps}
use Rattle.history_machine.proofs.laws.a_step_keeps_it.Goals as goal

pub returns : goal.returns
returns c =
    let laws : Laws = record {
      read = c.what_is_read_is_lawful.ensures;
      sampled = c.a_sample_is_lawful.ensures;
      own_ids = c.sound_histories_are_such.ensures.ids;
      tips = c.sound_histories_are_such.ensures.tips;
      once = c.selections_are_without_repeats.ensures;
      live = c.selections_are_live.ensures;
      edits = c.every_edit_is_one.ensures;
      expunges = λ matchers. c.an_expunge_is_an_edit.ensures (matched_by matchers);
      renumbers = c.a_renumbering_is_an_edit.ensures;
      said = c.every_file_edit_is_one.ensures;
      grafts = c.several_become_lawful.ensures.grafts;
      unites = c.several_become_lawful.ensures.unites;
      divides = c.several_become_lawful.ensures.divides;
      spelled = c.a_command_is_spelled.ensures;
    } in
    record { command = step_keeps laws; line = line_keeps laws }
