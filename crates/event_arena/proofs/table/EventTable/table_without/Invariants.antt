use Rattle.std.proofs.Common.{◌+◌, ◌≤◌, drop, take}
use Rattle.std.specs.Prelude.{IfSome}
use Rattle.event_arena.specs.Changes.{without_all}
use Rattle.event_arena.specs.Rows.{IsPlaced, NameAll}
use Rattle.event_arena.specs.Weights.{weight_of}
use Rattle.event_arena.proofs.table.EventTable.table_without.Given as goal

-- the rows that are left of those so far, their places, and a bound of what their events and those to come weigh
abbrev pub invariant-loop-place : goal.invariant-loop-place
invariant-loop-place l = record {
  named : NameAll l.self-inside.store l.rows.items (without_all l.ids (take l.place l.self));
  placed : IsPlaced l.places (without_all l.ids (take l.place l.self));
  bound : IfSome l.weight (λ most. weight_of (without_all l.ids (take l.place l.self)) + weight_of (drop l.place l.self) ≤ most);
}
