use Rattle.std.proofs.Common.{◌+◌, ◌≤◌, length}
use Rattle.std.specs.List.{AllByRecursion}
use Rattle.mailbox_laws.specs.Boxes.{box_in, lines_in}
use Rattle.mailbox_edit.specs.Judged.{IsLeft}
use Rattle.mailbox_edit.specs.Landings.{IsLandable}
use Rattle.mailbox_edit.proofs.judging.landings_of.Given as goal

abbrev pub invariant-loop-after : goal.invariant-loop-after
invariant-loop-after l = record {
  left : IsLeft l.events.list (box_in l.bytes) l.line (lines_in l.rest) l.wrong l.landings.items;
  landable : AllByRecursion (IsLandable l.events.list) l.landings.items;
  fits : l.line + length l.rest ≤ 1 + length l.bytes;
}

abbrev pub decreases-loop-after : goal.decreases-loop-after
decreases-loop-after l = length l.rest
