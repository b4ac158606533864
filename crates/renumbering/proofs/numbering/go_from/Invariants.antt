use Rattle.std.proofs.Common.{◌≡◌, ◌+◌, take}
use Rattle.renumbering.specs.Renumbered.{marks_from}
use Rattle.renumbering.proofs.numbering.go_from.Given as goal

abbrev pub invariant-loop-mark : goal.invariant-loop-mark
invariant-loop-mark l = record {
  next : l.next ≡ l.fn.first + l.mark-index;
  same : take l.mark-index l.marks ≡ marks_from l.fn.first (take l.mark-index l.marks);
}
