use Rattle.std.proofs.Common.{take}
use Rattle.graft_unite.specs.Dates.{AreDatesOf}
use Rattle.graft_unite.specs.Used.{AreNamesOf}
use Rattle.graft_unite.proofs.further.note_from.Given as goal

abbrev pub invariant-loop-place : goal.invariant-loop-place
invariant-loop-place l = record {
  names : AreNamesOf (take l.from l.plan.after) l.fn.used → AreNamesOf (take l.place l.plan.after) l.used;
  dates : AreDatesOf (take l.from l.plan.after) l.fn.dates → AreDatesOf (take l.place l.plan.after) l.dates;
}
