use Rattle.std.proofs.Common.{◌≡◌, ◌++◌, drop}
use Rattle.std.specs.Prelude.{map}
use Rattle.history_machine.specs.Whole.{waiting_of}
use Rattle.surgeon_session.proofs.worklist.lines_of.Given as goal

abbrev pub invariant-loop-item : goal.invariant-loop-item
invariant-loop-item l = l.lines.items ++ map waiting_of (drop l.item-index l.items) ≡ map waiting_of l.items
