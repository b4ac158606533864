use Rattle.std.proofs.Common.{◌+◌}
use Rattle.edit_laws.specs.Editing.{IsEdit, with_number}
use Rattle.reparent_laws.specs.Operations.{remove_of}
use Rattle.reparent_laws.specs.declared.removal.Removal.TheVariants.{At, Index}
use Rattle.script_reader.specs.Edits.{IsSpelledEdit}
use Rattle.script_reader.specs.declared.edit.Edit.{Edit}
use Rattle.script_reader.specs.declared.edit.Edit.TheVariants as edit
use Rattle.split_laws.specs.Split.{split_by_of}
use Rattle.path_move_laws.specs.Moves.{paths_moved}
use Rattle.path_move_laws.specs.PathMaps.{image_of}
use Rattle.path_move_laws.specs.declared.path_map.PathMap.TheVariants.{Rename, Sub, Sup}
use Rattle.script_lines.specs.Answering.{◌>>=◌}
use Rattle.history_machine.specs.PathWords.{said_path}
use Rattle.history_machine.specs.Sessions.{remade}
use Rattle.history_machine.proofs.Edits.{of_fit_path, of_path}
use Rattle.history_machine.proofs.laws.every_edit_is_one.Goals as goal

pub returns : goal.returns
returns c = each
  where
    each : (what : Edit) → IsSpelledEdit what → IsEdit (λ set next events. remade what set next events)
    each (edit.Squash how) fits = c.a_squash_is_an_edit.ensures how
    each (edit.SplitAt number) fits = c.a_split_is_an_edit.ensures.at number
    each (edit.SplitBy text) fits = of_path text (λ path set next events. with_number (next + 1) (split_by_of next path set events)) (c.a_split_is_an_edit.ensures.by text)
    each edit.Reorder fits = c.a_reorder_is_an_edit.ensures
    each (edit.Reparent how) fits = c.a_change_is_an_edit.ensures.reparent how.use_order how.rebase
    each edit.Merge fits = c.a_change_is_an_edit.ensures.merge
    each edit.Unmerge fits = c.a_change_is_an_edit.ensures.unmerge
    each (edit.Add op) fits = c.a_change_is_an_edit.ensures.add op fits.content fits.fits
    each (edit.RemoveAt number) fits = c.a_change_is_an_edit.ensures.remove (Index number)
    each (edit.RemoveBy text) fits = of_path text (λ path set next events. with_number next (remove_of (At path) set events)) (c.a_change_is_an_edit.ensures.remove (At text))
    each (edit.Coalesce seconds) fits = c.a_coalesce_is_an_edit.ensures seconds
    each edit.Simplify fits = c.a_simplify_is_an_edit.ensures
    each (edit.PathRename source target) fits =
        of_fit_path source (λ from set next events. said_path target >>= λ to. with_number next (paths_moved (image_of (Rename from to)) events))
        (λ source_fits. of_fit_path target (λ to set next events. with_number next (paths_moved (image_of (Rename source to)) events))
        (λ target_fits. c.a_move_is_an_edit.ensures (Rename source target) (source_fits, target_fits)))
    each (edit.PathsSub text) fits = of_fit_path text (λ folder set next events. with_number next (paths_moved (image_of (Sub folder)) events)) (c.a_move_is_an_edit.ensures (Sub text))
    each (edit.TimeOffset seconds zone) fits = c.a_time_offset_is_an_edit.ensures seconds zone fits
    each (edit.SetField value) fits = c.a_set_field_is_an_edit.ensures value fits
    each edit.Tagify fits = c.a_tagify_is_an_edit.ensures
    each (edit.PathsSup text) fits = of_fit_path text (λ folder set next events. with_number next (paths_moved (image_of (Sup folder)) events)) (c.a_move_is_an_edit.ensures (Sup text))
