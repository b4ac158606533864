use Rattle.path_tree.proofs.Searching.{found_at, absent_at}
use Rattle.path_tree.proofs.folder.block.find_in.Goals as goal

pub returns-in-Ok : goal.returns-in-Ok
returns-in-Ok c = found_at c.args.key.now c.args.children.now c.in-Ok.index c.index-children-index.result c.requires c.in-Ok.ensures.found

pub returns-in-Err : goal.returns-in-Err
returns-in-Err c = absent_at c.args.key.now c.args.children.now c.in-Err.field-0 c.in-Err.ensures.absent
