use Rattle.field_laws.proofs.FieldsAgain.{mark_again}
use Rattle.field_laws.proofs.laws.marks_are_read_again.Goals as goal

pub returns : goal.returns
returns c = mark_again
