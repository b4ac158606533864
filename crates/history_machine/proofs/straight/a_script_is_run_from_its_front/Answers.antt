use Rattle.plain_model.specs.declared.limit.TheConstants.{MAX_COMMANDS}
use Rattle.history_machine.proofs.StraightRuns.{script_front, script_whole}
use Rattle.history_machine.proofs.straight.a_script_is_run_from_its_front.Goals as goal

pub returns-clause-front : goal.returns-clause-front
returns-clause-front c = λ denials s files items keep. script_front keep MAX_COMMANDS denials s files items

pub returns-clause-all : goal.returns-clause-all
returns-clause-all c = λ denials s files items keep. script_whole keep MAX_COMMANDS denials s files items
