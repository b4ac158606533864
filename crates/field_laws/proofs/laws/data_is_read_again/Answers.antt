use Rattle.field_laws.proofs.FieldsAgain.{data_again}
use Rattle.field_laws.proofs.laws.data_is_read_again.Goals as goal

pub returns : goal.returns
returns c = data_again
