use Rattle.history_laws.proofs.Rows.{reset_is_written, reset_is_put_in}
use Rattle.history_laws.proofs.examples.a_root_is_reset_once.Goals as goal

pub returns : goal.returns
returns c = record { as_it_stands = reset_is_written; put_in = reset_is_put_in }
