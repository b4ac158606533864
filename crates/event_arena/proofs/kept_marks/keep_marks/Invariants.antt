use Rattle.std.proofs.Common.{take}
use Rattle.event_arena.specs.Touched.{KeepMarks}
use Rattle.event_arena.proofs.kept_marks.keep_marks.Given as goal

-- the events so far keep their marks
abbrev pub invariant-loop-id : goal.invariant-loop-id
invariant-loop-id l = KeepMarks (take l.id-index l.ids) l.before l.after
