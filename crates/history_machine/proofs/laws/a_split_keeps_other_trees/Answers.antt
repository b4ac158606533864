use Rattle.std.proofs.Common.{◌+◌, ◌≡◌, Ok, subst}
use Rattle.plain_model.specs.declared.id.AnyId.TheVariants as any
use Rattle.edit_laws.specs.Editing.{with_number}
use Rattle.edit_laws.proofs.Edits.{unspent}
use Rattle.event_sets.specs.Once.{AreLive}
use Rattle.event_sets.specs.Sets.{Ids}
use Rattle.script_reader.specs.declared.command.Command.TheVariants as command
use Rattle.script_reader.specs.declared.edit.Edit.TheVariants as edit
use Rattle.split_laws.specs.Split.{split_at_of, split_by_of}
use Rattle.history_machine.specs.Changed.{Splits, SplitsBy}
use Rattle.history_machine.proofs.Changes.{chosen_changes, numbered, with_path}
use Rattle.history_machine.proofs.Ready.{chosen_lawful, ready_live}
use Rattle.history_machine.proofs.Selections.{listed_here}
use Rattle.history_machine.proofs.laws.a_split_keeps_other_trees.Goals as goal

pub returns-clause-at : goal.returns-clause-at
returns-clause-at c = λ denial s files selection number t done lawful.
    let what = command.Edit selection (edit.SplitAt number) in
    chosen_changes (Splits number) denial s files selection (edit.SplitAt number) t done
    (λ subject repo made ready is made_is.
    let was = chosen_lawful s repo is lawful in
    let new = numbered (repo.next + 1) (split_at_of repo.next number subject.ids repo.history) made made_is in
    let one = c.a_split_is_of_one_commit.ensures.at repo.next number subject.ids repo.history made.history new.0 in
    let of_one = subst (λ (ids : Ids). split_at_of repo.next number ids repo.history ≡ Ok made.history) one.1 new.0 in
    let lives = ready_live c.selections_are_live.ensures c.sound_histories_are_such.ensures.tips denial s what subject lawful ready repo is in
    let there = listed_here repo.history (any.Commit one.0) (subst (AreLive repo.history) one.1 lives).0 in
    record {
      commit = one.0;
      only = one.1;
      next = new.1;
      halves = c.a_split_makes_two_halves.ensures.at repo.next number one.0 repo.history made.history of_one;
      trees =
          c.a_split_keeps_trees.ensures.at repo.next number one.0 repo.history made.history was.history.sound there
          (unspent repo.history repo.next was.spent) of_one;
    })

pub returns-clause-by : goal.returns-clause-by
returns-clause-by c = λ denial s files selection text t done lawful.
    let what = command.Edit selection (edit.SplitBy text) in
    chosen_changes (SplitsBy text) denial s files selection (edit.SplitBy text) t done
    (λ subject repo made ready is made_is.
    let was = chosen_lawful s repo is lawful in
    let said = with_path text (λ path. with_number (repo.next + 1) (split_by_of repo.next path subject.ids repo.history)) made made_is in
    let new = numbered (repo.next + 1) (split_by_of repo.next said.0 subject.ids repo.history) made said.2 in
    let one = c.a_split_is_of_one_commit.ensures.by repo.next said.0 subject.ids repo.history made.history new.0 in
    let of_one = subst (λ (ids : Ids). split_by_of repo.next said.0 ids repo.history ≡ Ok made.history) one.1 new.0 in
    let lives = ready_live c.selections_are_live.ensures c.sound_histories_are_such.ensures.tips denial s what subject lawful ready repo is in
    let there = listed_here repo.history (any.Commit one.0) (subst (AreLive repo.history) one.1 lives).0 in
    let halves = c.a_split_makes_two_halves.ensures.by repo.next said.0 one.0 repo.history made.history of_one in
    record {
      path = said.0;
      says = said.1;
      number = halves.0;
      splits = record {
        commit = one.0;
        only = one.1;
        next = new.1;
        halves = halves.2;
        trees =
            c.a_split_keeps_trees.ensures.by repo.next said.0 one.0 repo.history made.history was.history.sound there
            (unspent repo.history repo.next was.spent) of_one;
      };
      touches = halves.1;
    })
