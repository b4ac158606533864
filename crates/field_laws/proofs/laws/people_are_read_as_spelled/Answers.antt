use Rattle.field_laws.proofs.Persons.{person_in_is, person_in_read}
use Rattle.field_laws.proofs.laws.people_are_read_as_spelled.Goals as goal

pub returns : goal.returns
returns c = λ text who. (person_in_is text who, person_in_read text who)
