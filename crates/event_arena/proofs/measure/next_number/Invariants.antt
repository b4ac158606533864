use Rattle.std.proofs.Common.{◌≡◌, ◌≤◌, take}
use Rattle.plain_model.specs.Lookups.{next_number}
use Rattle.event_arena.proofs.measure.next_number.Given as goal

abbrev pub invariant-loop-place : goal.invariant-loop-place
invariant-loop-place l = record {
  value : l.next ≡ next_number (take l.place l.table);
  low : l.next ≤ 4611686018427387904;
}
