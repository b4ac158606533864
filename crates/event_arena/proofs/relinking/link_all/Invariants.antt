use Rattle.std.proofs.Common.{◌≤◌, ◌<◌, ◌+◌, ℕ, length, drop, get_or}
use Rattle.plain_model.specs.Lookups.{children_of}
use Rattle.event_arena.specs.Relinked.{IsPut}
use Rattle.event_arena.specs.Families.{IsRoomKept}
use Rattle.event_arena.proofs.relinking.link_all.Given as goal

-- the children from the place that was dealt with last on are linked
abbrev pub invariant-loop-done : goal.invariant-loop-done
invariant-loop-done l = record {
  room : IsRoomKept l.fn.links l.links;
  within : l.next ≤ length l.table;
  later : (m d : ℕ) → m < length l.places.items → length l.places.items ≤ m + l.done → l.next ≤ get_or l.places.items m d;
  linked : IsPut l.place (children_of l.parent (drop l.next l.table)) l.fn.links.lists l.links.lists;
}
