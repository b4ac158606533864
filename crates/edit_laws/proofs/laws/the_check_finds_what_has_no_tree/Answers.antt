use Rattle.edit_laws.proofs.Checked.{check_finds}
use Rattle.edit_laws.proofs.laws.the_check_finds_what_has_no_tree.Goals as goal

pub returns : goal.returns
returns c = check_finds
