use Rattle.std.proofs.Common.{◌≡◌, Ok, subst}
use Rattle.edit_laws.specs.Editing.{with_number}
use Rattle.event_sets.specs.Sets.{Ids}
use Rattle.reparent_laws.specs.Operations.{add_of, remove_of}
use Rattle.reparent_laws.specs.declared.removal.Removal.TheVariants.{At, Index}
use Rattle.script_reader.specs.declared.edit.Edit.TheVariants as edit
use Rattle.history_machine.specs.Changed.{Adds, Removes, RemovesBy}
use Rattle.history_machine.proofs.Changes.{chosen_changes, numbered, with_path}
use Rattle.history_machine.proofs.Ready.{chosen_lawful}
use Rattle.history_machine.proofs.replays.an_operation_changes_one_commit.Goals as goal

pub returns-clause-add : goal.returns-clause-add
returns-clause-add c = λ denial s files selection op t done lawful content fits.
    chosen_changes (Adds op) denial s files selection (edit.Add op) t done
    (λ subject repo made ready is made_is.
    let sound = (chosen_lawful s repo is lawful).history.sound in
    let new = numbered repo.next (add_of op subject.ids repo.history) made made_is in
    let one = c.an_operation_is_of_one_commit.ensures.add op subject.ids repo.history made.history new.0 in
    let of_one = subst (λ (ids : Ids). add_of op ids repo.history ≡ Ok made.history) one.2 new.0 in
    record {
      next = new.1;
      ids = c.a_change_keeps_the_ids.ensures.add op subject.ids repo.history made.history sound content fits new.0;
      commit = one.0;
      op = one.1;
      only = one.2;
      said = one.3;
      events = c.one_commit_is_changed.ensures.add op one.1 one.0 repo.history made.history sound content fits one.3 of_one;
      trees = c.other_operations_are_replayed.ensures.added_trees op subject.ids repo.history made.history sound content fits new.0;
    })

pub returns-clause-remove_at : goal.returns-clause-remove_at
returns-clause-remove_at c = λ denial s files selection number t done lawful.
    let what = Index number in
    chosen_changes (Removes what) denial s files selection (edit.RemoveAt number) t done
    (λ subject repo made ready is made_is.
    let sound = (chosen_lawful s repo is lawful).history.sound in
    let new = numbered repo.next (remove_of what subject.ids repo.history) made made_is in
    let one = c.an_operation_is_of_one_commit.ensures.remove what subject.ids repo.history made.history new.0 in
    let of_one = subst (λ (ids : Ids). remove_of what ids repo.history ≡ Ok made.history) one.1 new.0 in
    record {
      next = new.1;
      ids = c.a_change_keeps_the_ids.ensures.remove what subject.ids repo.history made.history sound new.0;
      blobs = c.a_blob_goes_with_its_last_operation.ensures what subject.ids repo.history made.history sound new.0;
      commit = one.0;
      only = one.1;
      events = c.one_commit_is_changed.ensures.remove what one.0 repo.history made.history sound of_one;
      trees = c.other_operations_are_replayed.ensures.left_trees what subject.ids repo.history made.history sound new.0;
    })

pub returns-clause-remove_by : goal.returns-clause-remove_by
returns-clause-remove_by c = λ denial s files selection text t done lawful.
    chosen_changes (RemovesBy text) denial s files selection (edit.RemoveBy text) t done
    (λ subject repo made ready is made_is.
    let sound = (chosen_lawful s repo is lawful).history.sound in
    let said = with_path text (λ path. with_number repo.next (remove_of (At path) subject.ids repo.history)) made made_is in
    let what = At said.0 in
    let new = numbered repo.next (remove_of what subject.ids repo.history) made said.2 in
    let one = c.an_operation_is_of_one_commit.ensures.remove what subject.ids repo.history made.history new.0 in
    let of_one = subst (λ (ids : Ids). remove_of what ids repo.history ≡ Ok made.history) one.1 new.0 in (
      said.0,
      said.1,
      record {
        next = new.1;
        ids = c.a_change_keeps_the_ids.ensures.remove what subject.ids repo.history made.history sound new.0;
        blobs = c.a_blob_goes_with_its_last_operation.ensures what subject.ids repo.history made.history sound new.0;
        commit = one.0;
        only = one.1;
        events = c.one_commit_is_changed.ensures.remove what one.0 repo.history made.history sound of_one;
        trees = c.other_operations_are_replayed.ensures.left_trees what subject.ids repo.history made.history sound new.0;
      },
    ))
