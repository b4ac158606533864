use Rattle.script_reader.proofs.SaidEdits.{edit_again}
use Rattle.script_reader.proofs.laws.an_edit_is_read_as_it_is_written.Goals as goal

pub returns : goal.returns
returns c = edit_again
