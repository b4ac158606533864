use Rattle.reparent_laws.proofs.ReparentDone.{done_last}
use Rattle.reparent_laws.proofs.laws.a_reparent_has_a_last_commit.Goals as goal

pub returns : goal.returns
returns c = λ use_order rebase set events new h sel d. done_last use_order rebase set events new h sel d
