use Rattle.std.proofs.Common.{take}
use Rattle.event_arena.specs.Changes.{in_order}
use Rattle.event_arena.specs.Rows.{NameAll}
use Rattle.event_arena.proofs.table.EventTable.table_in.Given as goal

-- the rows of the ids so far
abbrev pub invariant-loop-id : goal.invariant-loop-id
invariant-loop-id l = NameAll l.self-inside.store l.rows.items (in_order (take l.id-index l.order) l.self)
