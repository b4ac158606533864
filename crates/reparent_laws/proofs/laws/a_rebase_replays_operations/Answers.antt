use Rattle.std.proofs.Common.{true}
use Rattle.reparent_laws.proofs.ReparentDone.{done_fits, done_ops}
use Rattle.reparent_laws.proofs.laws.a_rebase_replays_operations.Goals as goal

pub returns : goal.returns
returns c = record {
  ops = done_ops;
  trees = λ use_order set events new h sel d. done_fits use_order true set events new h sel d;
}
