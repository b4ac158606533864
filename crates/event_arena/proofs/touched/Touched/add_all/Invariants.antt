use Rattle.std.proofs.Common.{take}
use Rattle.event_arena.specs.Touched.{HasMore}
use Rattle.event_arena.proofs.touched.Touched.add_all.Given as goal

-- the ids so far are added
abbrev pub invariant-loop-id : goal.invariant-loop-id
invariant-loop-id l = HasMore (take l.id-index l.ids) l.fn.self l.self
