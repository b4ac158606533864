use Rattle.std.proofs.Common.{◌+◌, length, refl}
use Rattle.std.proofs.lemmas.Bool.{and_parts}
use Rattle.plain_model.specs.declared.id.AnyId.TheVariants as any
use Rattle.squash_laws.specs.Removed.{is_removed}
use Rattle.tagify_laws.specs.Tagify.{tagged, tagify_of}
use Rattle.script_reader.specs.declared.edit.Edit.TheVariants as edit
use Rattle.std.specs.Prelude.{not}
use Rattle.plain_model.specs.Soundness.{has_id}
use Rattle.std.proofs.Common.{◌∙◌, sym}
use Rattle.history_machine.specs.Changed.{Tagifies}
use Rattle.history_machine.proofs.Changes.{chosen_changes, numbered}
use Rattle.history_machine.proofs.Ready.{chosen_lawful}
use Rattle.history_machine.proofs.TagsForCommits.{commits_keep}
use Rattle.history_machine.proofs.laws.a_tagify_keeps_trees.Goals as goal

pub returns-clause-trees : goal.returns-clause-trees
returns-clause-trees c = λ denial s files selection t done lawful.
    commits_keep denial s files selection edit.Tagify t done
    (λ subject repo made ready is made_is k there.
    let was = chosen_lawful s repo is lawful in
    let new = numbered (repo.next + length (tagged subject.ids repo.history)) (tagify_of repo.next subject.ids repo.history) made made_is in
    let stays = c.a_tagify_removes_its_commits.ensures repo.next subject.ids repo.history made.history was.history.sound was.spent new.0 k in (
      (and_parts (has_id repo.history (any.Commit k)) (not (is_removed (tagged subject.ids repo.history) k)) (sym stays ∙ there)).0,
      (c.a_tagify_keeps_trees.ensures repo.next subject.ids repo.history made.history was.history.sound was.spent new.0).shown k there,
    ))

pub returns-clause-tags : goal.returns-clause-tags
returns-clause-tags c = λ denial s files selection t done lawful.
    chosen_changes Tagifies denial s files selection edit.Tagify t done
    (λ subject repo made ready is made_is.
    let was = chosen_lawful s repo is lawful in
    let sound = was.history.sound in
    let new = numbered (repo.next + length (tagged subject.ids repo.history)) (tagify_of repo.next subject.ids repo.history) made made_is in
    record {
      next = new.1;
      list = c.tags_are_in_the_place_of_commits.ensures.done repo.next subject.ids repo.history made.history sound new.0;
      commits = c.a_tagify_removes_its_commits.ensures repo.next subject.ids repo.history made.history sound was.spent new.0;
      goes = c.nothing_else_goes_or_comes.ensures.goes repo.next subject.ids repo.history made.history sound new.0;
      comes = c.nothing_else_goes_or_comes.ensures.comes repo.next subject.ids repo.history made.history sound new.0;
      trees = c.a_tagify_keeps_trees.ensures repo.next subject.ids repo.history made.history sound was.spent new.0;
    })
