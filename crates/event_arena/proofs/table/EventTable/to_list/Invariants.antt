use Rattle.std.proofs.Common.{◌≡◌, take}
use Rattle.event_arena.proofs.table.EventTable.to_list.Given as goal

abbrev pub invariant-loop-place : goal.invariant-loop-place
invariant-loop-place l = l.list ≡ take l.place l.self
