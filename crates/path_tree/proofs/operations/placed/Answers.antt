use Rattle.std.proofs.Common.{option_map}
use Rattle.path_tree.specs.Inside.{member_of}
use Rattle.path_tree.proofs.Suffixes.{placed_is}
use Rattle.path_tree.proofs.operations.placed.Goals as goal

pub returns : goal.returns
returns c =
    placed_is c.args.path.now
    (option_map member_of c.args.node.now) c.args.root.value c.set_shared.new.folder.value c.requires.order c.in_ok-set_shared.ensures.order c.in_ok-set_shared.ensures.places
