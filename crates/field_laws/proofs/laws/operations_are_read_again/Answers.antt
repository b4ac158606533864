use Rattle.field_laws.proofs.FieldsAgain.{op_again}
use Rattle.field_laws.proofs.laws.operations_are_read_again.Goals as goal

pub returns : goal.returns
returns c = op_again
