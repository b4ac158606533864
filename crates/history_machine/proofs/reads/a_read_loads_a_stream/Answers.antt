use Rattle.history_machine.proofs.LoadedFiles.{read_loads, read_refused}
use Rattle.history_machine.proofs.reads.a_read_loads_a_stream.Goals as goal

pub returns-clause-done : goal.returns-clause-done
returns-clause-done c = λ s after files file name. read_loads s files file name after

pub returns-clause-refused : goal.returns-clause-refused
returns-clause-refused c = λ s files file name fault. read_refused s files file name fault
