use Rattle.graft_unite.proofs.ItemLemmas.{op_there}
use Rattle.graft_unite.proofs.renaming.new_ops.Goals as goal

pub new_op-requires : goal.new_op-requires
new_op-requires c = op_there c.args.numbers.now.part c.args.ops.now c.loop-op.op-index c.op-item.result c.loop-op-test.true c.op-item.is c.requires
