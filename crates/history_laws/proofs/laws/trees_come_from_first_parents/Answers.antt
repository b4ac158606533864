use Rattle.history_laws.proofs.LineLaws.{tree_of_line, linked}
use Rattle.history_laws.proofs.laws.trees_come_from_first_parents.Goals as goal

pub returns : goal.returns
returns c = record { linked = tree_of_line; sound = linked }
