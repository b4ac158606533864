use Rattle.field_laws.proofs.FieldsAgain.{person_again}
use Rattle.field_laws.proofs.laws.people_are_read_again.Goals as goal

pub returns : goal.returns
returns c = person_again
