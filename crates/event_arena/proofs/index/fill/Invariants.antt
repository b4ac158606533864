use Rattle.std.proofs.Common.{◌≡◌, ◌≤◌, ◌-◌, length, drop}
use Rattle.std.specs.List.Sorted.{IsPermutation}
use Rattle.std.specs.Prelude.{flat_map, max, vec_capacity, vec_len}
use Rattle.plain_model.specs.Lookups.{event_parents, marks_of}
use Rattle.event_arena.specs.Indices.{HasChildren}
use Rattle.event_arena.proofs.index.fill.Given as goal

-- what the events so far come to, which are the last of the table
abbrev pub invariant-loop-done : goal.invariant-loop-done
invariant-loop-done l = record {
  marks : IsPermutation (marks_of (drop (l.count - l.done) l.table)) l.marks.items;
  len : vec_len l.marks ≡ length (marks_of (drop (l.count - l.done) l.table));
  mark_room : vec_capacity l.marks ≡ vec_capacity l.fn.marks;
  places : length l.links.lists ≡ max (length l.fn.links.lists) (length l.table);
  used : l.links.used ≤ length (flat_map event_parents (drop (l.count - l.done) l.table));
  children : HasChildren l.links.lists l.table (drop (l.count - l.done) l.table);
  place_room : l.links.place_room ≡ l.fn.links.place_room;
  link_room : l.links.link_room ≡ l.fn.links.link_room;
}
