use Rattle.reorder_laws.proofs.Rows.{between, forked}
use Rattle.reorder_laws.proofs.examples.a_gap_is_no_line.Goals as goal

pub returns : goal.returns
returns c = record { gap = between; fork = forked }
