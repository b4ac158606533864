use Rattle.std.proofs.Common.{◌≡◌, ◌≤◌, ◌-◌, length, drop}
use Rattle.mailbox_laws.specs.Boxes.{is_ruled}
use Rattle.mailbox_lines.proofs.rules.is_ruled.Given as goal

abbrev pub invariant-loop-start : goal.invariant-loop-start
invariant-loop-start l = record {
  within : l.start ≤ length l.line;
  same : is_ruled (drop l.start l.line) ≡ is_ruled l.line;
}

abbrev pub decreases-loop-start : goal.decreases-loop-start
decreases-loop-start l = length l.line - l.start
