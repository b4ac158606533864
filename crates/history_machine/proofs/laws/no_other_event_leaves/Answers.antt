use Rattle.std.proofs.Common.{◌≡◌, List, Ok, not, subst}
use Rattle.std.specs.Prelude.{◌&&◌}
use Rattle.plain_model.specs.declared.event.PlainEvent.{PlainEvent}
use Rattle.plain_model.specs.declared.id.AnyId.{AnyId}
use Rattle.plain_model.specs.Lookups.{is_listed}
use Rattle.plain_model.specs.Soundness.{has_id}
use Rattle.script_reader.specs.declared.edit.Edit.TheVariants as edit
use Rattle.coalesce_laws.specs.Coalesce.{coalesce_of, joined_ones}
use Rattle.squash_laws.specs.Squash.{squash_of}
use Rattle.history_machine.specs.Changed.{JoinsCommits, RemovesSelected}
use Rattle.history_machine.proofs.Changes.{chosen_changes, numbered}
use Rattle.history_machine.proofs.Ready.{chosen_lawful}
use Rattle.history_machine.proofs.laws.no_other_event_leaves.Goals as goal

pub returns-clause-squash : goal.returns-clause-squash
returns-clause-squash c = λ denial s files selection how t done lawful.
    chosen_changes (RemovesSelected how) denial s files selection (edit.Squash how) t done
    (λ subject repo made ready is made_is.
    let sound = (chosen_lawful s repo is lawful).history.sound in
    let new = numbered repo.next (squash_of how subject.ids repo.history) made made_is in
    record {
      next = new.1;
      commits = c.a_squash_removes_its_commits.ensures how subject.ids repo.history made.history sound new.0;
      others = c.no_other_event_leaves.ensures.others how subject.ids repo.history made.history sound new.0;
      blobs = c.no_other_event_leaves.ensures.blobs how subject.ids repo.history made.history sound new.0;
      parents = c.parents_give_way_to_their_parents.ensures.parents how subject.ids repo.history made.history sound new.0;
    })

pub returns-clause-coalesce : goal.returns-clause-coalesce
returns-clause-coalesce c = λ denial s files selection seconds t done lawful.
    chosen_changes (JoinsCommits seconds) denial s files selection (edit.Coalesce seconds) t done
    (λ subject repo made ready is made_is.
    let sound = (chosen_lawful s repo is lawful).history.sound in
    let new = numbered repo.next (Ok (coalesce_of seconds subject.ids repo.history)) made made_is in
    let of_it = new.0 in
    let same : coalesce_of seconds subject.ids repo.history ≡ made.history = cc in
    record {
      next = new.1;
      ids =
          subst (λ (l : List PlainEvent). (id : AnyId) → has_id l id ≡ has_id repo.history id && not (is_listed id (joined_ones seconds subject.ids repo.history))) same
          (c.only_joined_commits_go.ensures.events seconds subject.ids repo.history sound);
      joined = c.only_joined_commits_go.ensures.joined seconds subject.ids repo.history sound;
    })
