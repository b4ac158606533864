use Rattle.split_laws.proofs.Edits.{at_edit, by_edit}
use Rattle.split_laws.proofs.laws.a_split_is_an_edit.Goals as goal

pub returns : goal.returns
returns c = record { at = at_edit; by = by_edit }
