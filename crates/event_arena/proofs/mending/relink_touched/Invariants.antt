use Rattle.std.proofs.Common.{take}
use Rattle.event_arena.specs.Relinked.{AreRelinked, parents_of}
use Rattle.event_arena.specs.Families.{IsRoomKept}
use Rattle.event_arena.proofs.mending.relink_touched.Given as goal

abbrev pub invariant-loop-id : goal.invariant-loop-id
invariant-loop-id l = record {
  room : IsRoomKept l.fn.links l.links;
  linked : AreRelinked (parents_of l.before l.after (take l.id-index l.touched)) l.after l.fn.links.lists l.links.lists;
}
