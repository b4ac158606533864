use Rattle.std.proofs.Common.{◌≡◌, ◌∙◌, refl, sym, subst, Ok}
use Rattle.plain_model.specs.Paths.{Bytes}
use Rattle.edit_laws.specs.Editing.{Remade, with_number}
use Rattle.event_sets.specs.Sets.{Ids}
use Rattle.path_move_laws.specs.Moves.{paths_moved}
use Rattle.path_move_laws.specs.PathMaps.{HasPaths, image_of}
use Rattle.path_move_laws.specs.declared.path_map.PathMap.{PathMap}
use Rattle.path_move_laws.specs.declared.path_map.PathMap.TheVariants.{Rename, Sub, Sup}
use Rattle.script_lines.specs.Answering.{◌>>=◌}
use Rattle.script_reader.specs.declared.edit.Edit.TheVariants as edit
use Rattle.history_machine.specs.Changed.{MovesPaths}
use Rattle.history_machine.specs.PathWords.{said_path}
use Rattle.history_machine.specs.Sessions.{Repo}
use Rattle.history_machine.proofs.Changes.{chosen_changes, numbered, with_path}
use Rattle.history_machine.proofs.Edits.{is_said}
use Rattle.history_machine.proofs.Ready.{chosen_lawful}
use Rattle.history_machine.proofs.moves.a_move_gives_files_other_paths.Goals as goal

pub returns-clause-rename : goal.returns-clause-rename
returns-clause-rename c = λ denial s files selection source target t done lawful.
    chosen_changes (MovesPaths (Rename source target)) denial s files selection (edit.PathRename source target) t done
    (λ subject repo made ready is made_is.
    let sound = (chosen_lawful s repo is lawful).history.sound in
    let first = with_path source (λ from. said_path target >>= λ to. with_number repo.next (paths_moved (image_of (Rename from to)) repo.history)) made made_is in
    let second = with_path target (λ to. with_number repo.next (paths_moved (image_of (Rename first.0 to)) repo.history)) made first.2 in
    let one = is_said source first.0 first.1 in
    let two = is_said target second.0 second.1 in
    let new = numbered repo.next (paths_moved (image_of (Rename source target)) repo.history) made
    (subst (λ (p : Bytes). with_number repo.next (paths_moved (image_of (Rename p target)) repo.history) ≡ Ok made) one.0
    (subst (λ (p : Bytes). with_number repo.next (paths_moved (image_of (Rename first.0 p)) repo.history) ≡ Ok made) two.0 second.2)) in
    record {
      next = new.1;
      events = c.nothing_else_changes.ensures (image_of (Rename source target)) repo.history made.history new.0;
      trees = c.a_move_maps_trees.ensures.trees (Rename source target) repo.history made.history (one.1, two.1) sound new.0;
      shown = c.a_move_maps_trees.ensures.shown (Rename source target) repo.history made.history (one.1, two.1) sound new.0;
    })

pub returns-clause-sub : goal.returns-clause-sub
returns-clause-sub c = λ denial s files selection folder t done lawful.
    chosen_changes (MovesPaths (Sub folder)) denial s files selection (edit.PathsSub folder) t done
    (λ subject repo made ready is made_is.
    let sound = (chosen_lawful s repo is lawful).history.sound in
    let said = with_path folder (λ path. with_number repo.next (paths_moved (image_of (Sub path)) repo.history)) made made_is in
    let one = is_said folder said.0 said.1 in
    let new = numbered repo.next (paths_moved (image_of (Sub folder)) repo.history) made
    (subst (λ (p : Bytes). with_number repo.next (paths_moved (image_of (Sub p)) repo.history) ≡ Ok made) one.0 said.2) in
    record {
      next = new.1;
      events = c.nothing_else_changes.ensures (image_of (Sub folder)) repo.history made.history new.0;
      trees = c.a_move_maps_trees.ensures.trees (Sub folder) repo.history made.history one.1 sound new.0;
      shown = c.a_move_maps_trees.ensures.shown (Sub folder) repo.history made.history one.1 sound new.0;
    })

pub returns-clause-sup : goal.returns-clause-sup
returns-clause-sup c = λ denial s files selection folder t done lawful.
    chosen_changes (MovesPaths (Sup folder)) denial s files selection (edit.PathsSup folder) t done
    (λ subject repo made ready is made_is.
    let sound = (chosen_lawful s repo is lawful).history.sound in
    let said = with_path folder (λ path. with_number repo.next (paths_moved (image_of (Sup path)) repo.history)) made made_is in
    let one = is_said folder said.0 said.1 in
    let new = numbered repo.next (paths_moved (image_of (Sup folder)) repo.history) made
    (subst (λ (p : Bytes). with_number repo.next (paths_moved (image_of (Sup p)) repo.history) ≡ Ok made) one.0 said.2) in
    record {
      next = new.1;
      events = c.nothing_else_changes.ensures (image_of (Sup folder)) repo.history made.history new.0;
      trees = c.a_move_maps_trees.ensures.trees (Sup folder) repo.history made.history one.1 sound new.0;
      shown = c.a_move_maps_trees.ensures.shown (Sup folder) repo.history made.history one.1 sound new.0;
    })
