use Rattle.std.proofs.Common.{sym, ◌∙◌}
use Rattle.path_tree.specs.Inside.{all_rows, rows_of}
use Rattle.path_tree.proofs.Blocks.{at_around, order_around}
use Rattle.path_tree.proofs.folder.blocks.find.Goals as goal

pub find_in-requires : goal.find_in-requires
find_in-requires c = order_around c.args.key.now (all_rows c.args.children.now) (rows_of c.block_at.result.now) c.block_at.ensures c.requires.order

pub returns : goal.returns
returns c = c.find_in.ensures ∙ sym (at_around c.args.key.now (all_rows c.args.children.now) (rows_of c.block_at.result.now) c.block_at.ensures)
