use Rattle.field_laws.proofs.Decimals.{decimal_of_is, numeral_of}
use Rattle.field_laws.proofs.laws.numbers_are_read_again.Goals as goal

pub returns : goal.returns
returns c = record { said = numeral_of; same = decimal_of_is }
