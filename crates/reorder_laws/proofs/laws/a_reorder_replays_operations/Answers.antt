use Rattle.reorder_laws.proofs.ReorderDone.{done_fits, done_ops}
use Rattle.reorder_laws.proofs.laws.a_reorder_replays_operations.Goals as goal

pub returns : goal.returns
returns c = record { ops = done_ops; trees = done_fits }
