use Rattle.std.proofs.Common.{take}
use Rattle.graft_unite.specs.Dates.{AreDatesOf}
use Rattle.graft_unite.proofs.uniting.dates_of.Given as goal

abbrev pub invariant-loop-place : goal.invariant-loop-place
invariant-loop-place l = AreDatesOf (take l.place l.events.list) l.dates
