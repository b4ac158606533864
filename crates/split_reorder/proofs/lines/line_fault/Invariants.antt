use Rattle.std.proofs.Common.{◌≡◌, drop}
use Rattle.reorder_laws.specs.Reorder.{line_fault}
use Rattle.split_reorder.proofs.lines.line_fault.Given as goal

abbrev pub invariant-loop-commit : goal.invariant-loop-commit
invariant-loop-commit l = line_fault l.events.list l.before (drop l.commit-index l.rest) ≡ line_fault l.events.list l.fn.first l.rest
