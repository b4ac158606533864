use Rattle.history_machine.proofs.RunSessions.{after_each, before_each, nothing_loaded, of_whole}
use Rattle.history_machine.proofs.laws.each_session_of_a_run_is_lawful.Goals as goal

pub returns-clause-empty : goal.returns-clause-empty
returns-clause-empty c = nothing_loaded

pub returns-clause-after : goal.returns-clause-after
returns-clause-after c = after_each c.a_step_keeps_it.ensures.line

pub returns-clause-before : goal.returns-clause-before
returns-clause-before c = before_each c.a_step_keeps_it.ensures.line

pub returns-clause-whole : goal.returns-clause-whole
returns-clause-whole c = of_whole c.a_step_keeps_it.ensures.line
