use Rattle.shown_laws.proofs.Unchanged.{stays}
use Rattle.shown_laws.proofs.laws.what_is_read_stays_as_it_is.Goals as goal

pub returns : goal.returns
returns c = stays
