use Rattle.squash_laws.proofs.Rows.{first_back, fork_back, last_back, root_back}
use Rattle.squash_laws.proofs.examples.an_only_child_is_pushed_back.Goals as goal

pub returns : goal.returns
returns c = record { done = last_back; fork = fork_back; root = root_back; first = first_back }
