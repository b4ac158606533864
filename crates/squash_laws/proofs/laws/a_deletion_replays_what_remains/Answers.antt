use Rattle.squash_laws.proofs.Shows.{deleted_fits, deleted_ops}
use Rattle.squash_laws.proofs.laws.a_deletion_replays_what_remains.Goals as goal

pub returns : goal.returns
returns c = record {
  ops = deleted_ops;
  trees = λ set events tags. deleted_fits set events tags;
}
