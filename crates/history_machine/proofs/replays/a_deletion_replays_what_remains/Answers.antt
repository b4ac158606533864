use Rattle.plain_model.specs.declared.policy.Policy.{Policy}
use Rattle.plain_model.specs.declared.policy.Push.TheVariants as push
use Rattle.script_reader.specs.declared.edit.Edit.TheVariants as edit
use Rattle.squash_laws.specs.Squash.{squash_of}
use Rattle.history_machine.specs.Changed.{Deletes}
use Rattle.history_machine.proofs.Changes.{chosen_changes, numbered}
use Rattle.history_machine.proofs.Ready.{chosen_lawful}
use Rattle.history_machine.proofs.replays.a_deletion_replays_what_remains.Goals as goal

pub returns : goal.returns
returns c = λ denial s files selection tags t done lawful.
    let how : Policy = record { push = push.Discard; tags = tags } in
    chosen_changes (Deletes tags) denial s files selection (edit.Squash how) t done
    (λ subject repo made ready is made_is.
    let sound = (chosen_lawful s repo is lawful).history.sound in
    let new = numbered repo.next (squash_of how subject.ids repo.history) made made_is in
    record {
      removes = record {
        next = new.1;
        commits = c.a_squash_removes_its_commits.ensures how subject.ids repo.history made.history sound new.0;
        others = c.no_other_event_leaves.ensures.others how subject.ids repo.history made.history sound new.0;
        blobs = c.no_other_event_leaves.ensures.blobs how subject.ids repo.history made.history sound new.0;
        parents = c.parents_give_way_to_their_parents.ensures.parents how subject.ids repo.history made.history sound new.0;
      };
      events = c.parents_give_way_to_their_parents.ensures.deletion subject.ids repo.history tags made.history sound new.0;
      trees = c.a_deletion_replays_what_remains.ensures.trees subject.ids repo.history tags made.history sound new.0;
    })
