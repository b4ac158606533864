use Rattle.production_laws.proofs.Spelled.{spelled_is_read}
use Rattle.production_laws.proofs.laws.what_has_the_form_is_read.Goals as goal

pub returns : goal.returns
returns c = spelled_is_read
