use Rattle.std.proofs.Common.{◌≤◌, ◌-◌, length}
use Rattle.event_arena.proofs.shifting.place_from.Given as goal

abbrev pub invariant-loop-place : goal.invariant-loop-place
invariant-loop-place l = record {
  from : l.from ≤ l.place;
  within : l.place ≤ length l.table;
}

abbrev pub decreases-loop-place : goal.decreases-loop-place
decreases-loop-place l = length l.table - l.place
