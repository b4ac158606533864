use Rattle.expunge_laws.proofs.Whole.{expunge_leaves, expunge_was_there}
use Rattle.expunge_laws.proofs.laws.emptied_commits_leave.Goals as goal

pub returns : goal.returns
returns c = record {
  leaves = λ matched events new h. expunge_leaves matched events h new;
  none = λ matched events new h. expunge_was_there matched events h new;
}
