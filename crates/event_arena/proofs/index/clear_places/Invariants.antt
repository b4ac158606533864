use Rattle.std.proofs.Common.{◌≡◌, ◌≤◌, ℕ, [], length, get_or}
use Rattle.std.specs.Prelude.{max}
use Rattle.event_arena.proofs.index.clear_places.Given as goal

abbrev pub invariant-loop-place : goal.invariant-loop-place
invariant-loop-place l = record {
  places : length l.links.lists ≡ l._place;
  old : length l.fn.links.lists ≤ l._place;
  most : l._place ≤ max (length l.fn.links.lists) l.count;
  empty : (k : ℕ) → get_or l.links.lists k [] ≡ [];
  used : l.links.used ≡ 0;
  place_room : l.links.place_room ≡ l.fn.links.place_room;
  link_room : l.links.link_room ≡ l.fn.links.link_room;
}
