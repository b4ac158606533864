use Rattle.kept_steps.proofs.Kept.{Given, commits_by_parts, commits_by_runs, commits_by_scripts}
use Rattle.kept_steps.proofs.laws.every_commit_stays_through_a_run.Goals as goal

pub returns : goal.returns
returns c =
    let laws : Given = record {
      trees = c.one_command_keeps_trees.ensures.trees;
      commits = c.one_command_keeps_trees.ensures.commits;
      step_lawful = c.a_step_keeps_it.ensures.command;
      line_lawful = c.a_step_keeps_it.ensures.line;
    } in
    record {
      from = commits_by_scripts laws;
      whole = commits_by_runs laws c.each_session_of_a_run_is_lawful.ensures.empty;
      on_the_way = commits_by_parts laws c.each_session_of_a_run_is_lawful.ensures.empty;
    }
