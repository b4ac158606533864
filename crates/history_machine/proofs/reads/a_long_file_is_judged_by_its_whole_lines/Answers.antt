use Rattle.history_machine.proofs.LongFiles.{long_refused}
use Rattle.history_machine.proofs.reads.a_long_file_is_judged_by_its_whole_lines.Goals as goal

pub returns : goal.returns
returns c = λ file bytes fault. long_refused file bytes fault
