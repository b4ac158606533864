use Rattle.std.proofs.Common.{◌*◌, ◌+◌, length}
use Rattle.path_tree.proofs.folder.+setting.Given as goal

abbrev pub decreases-Folder::set : goal.decreases-Folder::set
decreases-Folder::set l = 7 * length l.path.now

abbrev pub decreases-setting::set_shared : goal.decreases-setting::set_shared
decreases-setting::set_shared l = 7 * length l.path.now + 1

abbrev pub decreases-Folder::put_new : goal.decreases-Folder::put_new
decreases-Folder::put_new l = 7 * length l.path.now + 1

abbrev pub decreases-setting::set_node : goal.decreases-setting::set_node
decreases-setting::set_node l = 7 * length l.path.now + 2

abbrev pub decreases-setting::set_child : goal.decreases-setting::set_child
decreases-setting::set_child l = 7 * length l.path.now + 3

abbrev pub decreases-setting::set_in : goal.decreases-setting::set_in
decreases-setting::set_in l = 7 * length l.path.now + 4

abbrev pub decreases-setting::set_under : goal.decreases-setting::set_under
decreases-setting::set_under l = 7 * length l.path.now + 5

abbrev pub decreases-Folder::set_below : goal.decreases-Folder::set_below
decreases-Folder::set_below l = 7 * length l.path.now + 6
