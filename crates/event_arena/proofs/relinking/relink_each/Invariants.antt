use Rattle.std.proofs.Common.{take}
use Rattle.event_arena.specs.Relinked.{AreRelinked}
use Rattle.event_arena.specs.Families.{IsRoomKept}
use Rattle.event_arena.proofs.relinking.relink_each.Given as goal

abbrev pub invariant-loop-commit : goal.invariant-loop-commit
invariant-loop-commit l = record {
  room : IsRoomKept l.fn.links l.links;
  linked : AreRelinked (take l.commit-index l.commits) l.table l.fn.links.lists l.links.lists;
}
