use Rattle.std.proofs.Common.{◌≡◌, take}
use Rattle.renumbering.specs.Renumbered.{marks_from}
use Rattle.renumbering.proofs.numbering.marks_from.Given as goal

abbrev pub invariant-loop-done : goal.invariant-loop-done
invariant-loop-done l = l.list ≡ marks_from l.first (take l.done l.marks)
