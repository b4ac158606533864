use Rattle.kept_steps.proofs.Kept.{names_by_parts, names_by_runs, names_by_scripts}
use Rattle.kept_steps.proofs.laws.names_and_ids_stay_through_a_run.Goals as goal

pub returns : goal.returns
returns c = record {
  from = names_by_scripts c.a_step_keeps_it.ensures.command c.a_step_keeps_it.ensures.line;
  whole = names_by_runs c.a_step_keeps_it.ensures.command c.a_step_keeps_it.ensures.line c.each_session_of_a_run_is_lawful.ensures.empty;
  on_the_way = names_by_parts c.a_step_keeps_it.ensures.command c.a_step_keeps_it.ensures.line c.each_session_of_a_run_is_lawful.ensures.empty;
}
