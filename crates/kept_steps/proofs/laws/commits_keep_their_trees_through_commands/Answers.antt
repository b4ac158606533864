use Rattle.kept_steps.proofs.Kept.{Given, trees_by_commands}
use Rattle.kept_steps.proofs.laws.commits_keep_their_trees_through_commands.Goals as goal

pub returns : goal.returns
returns c =
    let laws : Given = record {
      trees = c.one_command_keeps_trees.ensures.trees;
      commits = c.one_command_keeps_trees.ensures.commits;
      step_lawful = c.a_step_keeps_it.ensures.command;
      line_lawful = c.a_step_keeps_it.ensures.line;
    } in
    trees_by_commands laws
