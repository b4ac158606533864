use Rattle.script_reader.proofs.OptionWords.{how_together, options_together, together_how, together_options}
use Rattle.script_reader.proofs.laws.options_are_read_as_they_stand_together.Goals as goal

pub returns-clause-squash : goal.returns-clause-squash
returns-clause-squash c = λ words asked. (options_together words asked, together_options words asked)

pub returns-clause-reparent : goal.returns-clause-reparent
returns-clause-reparent c = λ words how. (how_together words how, together_how words how)
