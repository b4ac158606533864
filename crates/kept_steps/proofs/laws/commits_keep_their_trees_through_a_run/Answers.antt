use Rattle.kept_steps.proofs.Kept.{Given, trees_by_parts, trees_by_runs, trees_by_scripts}
use Rattle.kept_steps.proofs.laws.commits_keep_their_trees_through_a_run.Goals as goal

pub returns : goal.returns
returns c =
    let laws : Given = record {
      trees = c.one_command_keeps_trees.ensures.trees;
      commits = c.one_command_keeps_trees.ensures.commits;
      step_lawful = c.a_step_keeps_it.ensures.command;
      line_lawful = c.a_step_keeps_it.ensures.line;
    } in
    record {
      from = trees_by_scripts laws;
      whole = trees_by_runs laws c.each_session_of_a_run_is_lawful.ensures.empty;
      on_the_way = trees_by_parts laws c.each_session_of_a_run_is_lawful.ensures.empty;
    }
