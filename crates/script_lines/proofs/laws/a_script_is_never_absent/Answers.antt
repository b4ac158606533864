use Rattle.script_lines.proofs.NeverAbsent.{script_there}
use Rattle.script_lines.proofs.laws.a_script_is_never_absent.Goals as goal

pub returns : goal.returns
returns c = script_there
