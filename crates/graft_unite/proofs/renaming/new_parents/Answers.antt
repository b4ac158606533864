use Rattle.graft_unite.proofs.ItemLemmas.{parent_there}
use Rattle.graft_unite.proofs.renaming.new_parents.Goals as goal

pub commit-requires : goal.commit-requires
commit-requires c = parent_there c.args.numbers.now.part c.args.parents.now c.loop-parent.parent-index c.parent-item.result c.loop-parent-test.true c.parent-item.is c.requires
