use Rattle.round_trip_laws.proofs.Again.{again}
use Rattle.round_trip_laws.proofs.laws.what_is_written_is_read_again.Goals as goal

pub returns : goal.returns
returns c = again
