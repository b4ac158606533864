use Rattle.kept_steps.proofs.Steps.{Laws, does_commits, does_trees}
use Rattle.kept_steps.proofs.laws.one_command_keeps_trees.Goals as goal

pub returns : goal.returns
returns c =
    let laws : Laws = record {
      renumbers = c.a_renumber_keeps_trees.ensures;
      assigns = c.an_assign_keeps_histories.ensures;
      forward = c.a_squash_forward_keeps_trees.ensures;
      reparents = c.new_parents_keep_trees.ensures.reparent;
      merges = c.new_parents_keep_trees.ensures.merge;
      unmerges = c.new_parents_keep_trees.ensures.unmerge;
      coalesces = c.a_coalesce_keeps_trees.ensures;
      simplifies = c.a_simplify_keeps_trees.ensures;
      said = c.a_file_edit_keeps_trees.ensures;
      offsets = c.other_fields_keep_trees.ensures.offset;
      values = c.other_fields_keep_trees.ensures.value;
      grafts = c.a_graft_keeps_trees.ensures;
      unites = c.a_unite_keeps_trees.ensures;
      every_of_all = c.what_is_kept_composes.ensures.all;
    } in
    record {
      trees = λ denial s files what t done lawful keeps. (does_trees laws denial s files what t keeps lawful done).0;
      commits = λ denial s files what t done lawful keeps. (does_commits laws denial s files what t keeps lawful done).0;
      loads = λ denial s files what t done lawful keeps. (does_trees laws denial s files what t keeps lawful done).1;
    }
