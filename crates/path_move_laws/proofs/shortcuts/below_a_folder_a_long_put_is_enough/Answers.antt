use Rattle.path_move_laws.proofs.LongPuts.{long_put_refuses}
use Rattle.path_move_laws.proofs.shortcuts.below_a_folder_a_long_put_is_enough.Goals as goal

pub returns : goal.returns
returns c = long_put_refuses
