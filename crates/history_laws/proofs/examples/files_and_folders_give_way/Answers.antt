use Rattle.history_laws.proofs.Rows.{trees_of_puts, trees_of_moves}
use Rattle.history_laws.proofs.examples.files_and_folders_give_way.Goals as goal

pub returns : goal.returns
returns c = record { puts = trees_of_puts; moves = trees_of_moves }
