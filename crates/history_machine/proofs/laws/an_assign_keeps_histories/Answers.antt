use Rattle.history_machine.proofs.Changes.{assign_keeps}
use Rattle.history_machine.proofs.laws.an_assign_keeps_histories.Goals as goal

pub returns : goal.returns
returns c = assign_keeps
