use Rattle.script_reader.proofs.SaidEdits.{delete_again}
use Rattle.script_reader.proofs.laws.a_delete_is_a_squash.Goals as goal

pub returns : goal.returns
returns c = delete_again
