use Rattle.std.proofs.Common.{◌≡◌, ◌+◌, ◌≤◌, length, take}
use Rattle.event_arena.specs.Indices.{IsLinked}
use Rattle.event_arena.proofs.index.link_to.Given as goal

abbrev pub invariant-loop-parent : goal.invariant-loop-parent
invariant-loop-parent l = record {
  places : length l.links.lists ≡ length l.fn.links.lists;
  used : l.links.used ≤ l.fn.links.used + l.parent-index;
  place_room : l.links.place_room ≡ l.fn.links.place_room;
  link_room : l.links.link_room ≡ l.fn.links.link_room;
  linked : IsLinked l.child (take l.parent-index l.parents) l.table l.fn.links.lists l.links.lists;
}
