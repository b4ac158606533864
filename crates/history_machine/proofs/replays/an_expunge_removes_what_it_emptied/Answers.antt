use Rattle.expunge_laws.specs.Expunged.{expunge_of}
use Rattle.expunge_laws.specs.Matching.{matched_by}
use Rattle.script_reader.specs.declared.command.Command.TheVariants as command
use Rattle.history_machine.specs.Sessions.{without_paths}
use Rattle.history_machine.proofs.Changes.{edit_made, numbered}
use Rattle.history_machine.proofs.Ready.{chosen_lawful, expunge_reads}
use Rattle.history_machine.proofs.Steps.{with_its_subject}
use Rattle.history_machine.proofs.replays.an_expunge_removes_what_it_emptied.Goals as goal

pub returns : goal.returns
returns c = λ denial s files words t done lawful.
    let read = expunge_reads denial s files words t done in
    let matched = matched_by read.0 in
    let subject = with_its_subject denial s files (command.Expunge words) t done in
    let its = edit_made s (without_paths read.0) t read.2 in
    let repo = its.0 in
    let made = its.1 in
    let sound = (chosen_lawful s repo its.2 lawful).history.sound in
    let new = numbered repo.next (expunge_of matched repo.history) made its.3 in (
      read.0,
      read.1,
      record {
        subject = subject.0;
        old = repo;
        made = made;
        speaks = subject.2;
        is_chosen = its.2;
        changes = record {
          next = new.1;
          commits = c.emptied_commits_leave.ensures.leaves matched repo.history made.history sound new.0;
          blobs = c.blobs_leave_that_nothing_names.ensures matched repo.history made.history sound new.0;
          others = c.no_other_event_leaves.ensures matched repo.history made.history sound new.0;
          parents = c.parents_give_way_to_what_stays.ensures matched repo.history made.history sound new.0;
          trees = c.an_expunge_restricts_trees.ensures.shown matched repo.history made.history sound new.0;
          same = c.what_stays_is_as_it_was.ensures matched repo.history made.history sound new.0;
        };
        rest = its.4;
      },
    )
