use Rattle.renumbering.proofs.Edits.{numbered_edit}
use Rattle.renumbering.proofs.laws.a_renumbering_is_an_edit.Goals as goal

pub returns : goal.returns
returns c = numbered_edit
