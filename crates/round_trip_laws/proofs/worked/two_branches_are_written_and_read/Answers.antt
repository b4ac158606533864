use Rattle.round_trip_laws.proofs.Rows.{is_as_read, is_written, is_read}
use Rattle.round_trip_laws.proofs.worked.two_branches_are_written_and_read.Goals as goal

pub returns : goal.returns
returns c = record { is_as_read = is_as_read; written = is_written; read = is_read }
