use Rattle.plain_model.specs.declared.limit.TheConstants.{MAX_COMMANDS}
use Rattle.history_machine.proofs.StraightRuns.{run_turns}
use Rattle.history_machine.proofs.straight.a_run_has_so_many_turns.Goals as goal

pub returns : goal.returns
returns c = λ denials s files items keep. run_turns keep MAX_COMMANDS denials s files items
