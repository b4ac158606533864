use Rattle.simplify_laws.proofs.Room.{no_room_after, room_before}
use Rattle.simplify_laws.proofs.Rows.{folder_first, folder_left, folder_tree}
use Rattle.simplify_laws.proofs.examples.a_drop_may_need_room.Goals as goal

pub returns : goal.returns
returns c = record {
  small = folder_first;
  its_tree = folder_tree;
  left = folder_left;
  before = room_before;
  after = no_room_after;
}
