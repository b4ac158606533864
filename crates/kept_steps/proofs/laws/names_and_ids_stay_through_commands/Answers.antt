use Rattle.kept_steps.proofs.Kept.{names_by_commands}
use Rattle.kept_steps.proofs.laws.names_and_ids_stay_through_commands.Goals as goal

pub returns : goal.returns
returns c = names_by_commands c.a_step_keeps_it.ensures.command c.a_step_keeps_it.ensures.line
