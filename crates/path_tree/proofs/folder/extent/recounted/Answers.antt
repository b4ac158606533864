use Rattle.path_tree.proofs.Exchanges.{extent_after}
use Rattle.path_tree.proofs.folder.extent.recounted.Goals as goal

pub returns-in-Some : goal.returns-in-Some
returns-in-Some c key new old before x = extent_after x c.args.before _ before c.in-Some.ensures
