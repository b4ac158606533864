use Rattle.kept_steps.proofs.Kept.{Given, commits_by_commands}
use Rattle.kept_steps.proofs.laws.every_commit_stays_through_commands.Goals as goal

pub returns : goal.returns
returns c =
    let laws : Given = record {
      trees = c.one_command_keeps_trees.ensures.trees;
      commits = c.one_command_keeps_trees.ensures.commits;
      step_lawful = c.a_step_keeps_it.ensures.command;
      line_lawful = c.a_step_keeps_it.ensures.line;
    } in
    commits_by_commands laws
