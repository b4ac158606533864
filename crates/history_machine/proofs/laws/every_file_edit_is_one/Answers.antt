use Rattle.plain_model.specs.Paths.{Bytes}
use Rattle.edit_laws.specs.Editing.{IsEdit}
use Rattle.script_reader.specs.declared.command.FileEdit.{FileEdit}
use Rattle.script_reader.specs.declared.command.FileEdit.TheVariants as by
use Rattle.history_machine.specs.Sessions.{said_by}
use Rattle.history_machine.proofs.laws.every_file_edit_is_one.Goals as goal

pub returns : goal.returns
returns c = each
  where
    each : (what : FileEdit) (bytes : Bytes) → IsEdit (λ set next events. said_by what bytes next events)
    each by.Messages bytes = c.a_landing_is_an_edit.ensures bytes
    each by.Authors bytes = c.authors_are_an_edit.ensures bytes
