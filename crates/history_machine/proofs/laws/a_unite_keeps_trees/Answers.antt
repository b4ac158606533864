use Rattle.script_reader.specs.declared.command.Command.TheVariants as command
use Rattle.history_machine.specs.Several.{after_uniting, united_of}
use Rattle.history_machine.specs.Steps.{carried}
use Rattle.history_machine.proofs.Joined.{changed_to, united, united_trees}
use Rattle.history_machine.proofs.Steps.{with_its_subject}
use Rattle.history_machine.proofs.laws.a_unite_keeps_trees.Goals as goal

pub returns : goal.returns
unfolding carried
returns c = λ denial s files names prune t h lawful.
    let done = with_its_subject denial s files (command.Unite names prune) t h in
    united_trees c.a_unite_is_lawful.ensures.several c.a_unite_keeps_the_base.ensures.trees c.a_pruned_unite_keeps_trees.ensures c.a_pruned_unite_keeps_all_trees.ensures.trees
    c.a_unite_has_no_other_events.ensures s names prune t.session lawful
    (united s names (united_of prune) t.session (changed_to (after_uniting s names (united_of prune)) t done.1))
