use Rattle.path_move_laws.proofs.Named.{go_by_name}
use Rattle.path_move_laws.proofs.shortcuts.below_a_folder_short_paths_go_by_name.Goals as goal

pub returns : goal.returns
returns c = λ folder events is_folder sound fit. go_by_name folder is_folder events sound fit
