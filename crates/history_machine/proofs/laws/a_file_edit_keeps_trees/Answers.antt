use Rattle.std.proofs.Common.{◌≡◌, Ok, Option, ap, sym, ◌∙◌}
use Rattle.plain_model.specs.Files.{Files}
use Rattle.plain_model.specs.Lookups.{is_listed}
use Rattle.plain_model.specs.Paths.{Bytes}
use Rattle.byte_patterns.specs.Judging.{Denial}
use Rattle.script_reader.specs.declared.command.Command.TheVariants as command
use Rattle.script_reader.specs.declared.command.FileEdit.{FileEdit}
use Rattle.script_reader.specs.declared.command.FileEdit.TheVariants as by
use Rattle.history_machine.specs.Kept.{Each, KeepsEveryTree}
use Rattle.history_machine.specs.Machine.{Effect}
use Rattle.history_machine.specs.Sessions.{Session}
use Rattle.history_machine.specs.Steps.{step}
use Rattle.history_machine.proofs.Steps.{kept_by_ids, said_keeps}
use Rattle.history_machine.proofs.laws.a_file_edit_keeps_trees.Goals as goal

pub returns : goal.returns
returns c = each
  where
    each : (denial : Option Denial) (s : Session) (files : Files) (what : FileEdit) (file : Bytes) (t : Effect Session)
        → step denial s files (command.EditBy what file) ≡ Ok t → Each KeepsEveryTree s.repos t.session.repos
    each denial s files by.Messages file = said_keeps by.Messages (λ events new bytes made.
        let words = c.only_people_and_comments_land.ensures events new bytes made in
        kept_by_ids events new (c.other_words_keep_all_else.ensures.trees events new words) (c.other_words_keep_all_else.ensures.all_else events new words).ids) denial s files file
    each denial s files by.Authors file = said_keeps by.Authors (λ events new bytes made.
        let kept = c.changed_fields_keep_trees.ensures.authors bytes events new made in
        kept_by_ids events new kept.0 kept.1.ids) denial s files file
