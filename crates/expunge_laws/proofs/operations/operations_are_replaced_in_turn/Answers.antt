use Rattle.expunge_laws.proofs.InTurn.{in_turn}
use Rattle.expunge_laws.proofs.Replacing.{replaced_step}
use Rattle.expunge_laws.proofs.operations.operations_are_replaced_in_turn.Goals as goal

pub returns : goal.returns
returns c = record { turn = in_turn; step = λ matched op before after t h. replaced_step matched op before after t h }
