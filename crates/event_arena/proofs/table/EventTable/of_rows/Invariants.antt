use Rattle.std.proofs.Common.{take}
use Rattle.event_arena.specs.Rows.{IsPlaced, in_rows}
use Rattle.event_arena.proofs.table.EventTable.of_rows.Given as goal

-- of the rows so far the places are noted
abbrev pub invariant-loop-place : goal.invariant-loop-place
invariant-loop-place l = IsPlaced l.places (take l.place (in_rows l.fn.store l.fn.rows.items))
