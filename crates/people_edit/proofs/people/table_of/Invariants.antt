use Rattle.std.proofs.Common.{◌≡◌, ◌+◌, ◌≤◌, length}
use Rattle.mailbox_laws.specs.Boxes.{lines_in}
use Rattle.people_edit.specs.Tables.{table_from, table_of}
use Rattle.people_edit.proofs.people.table_of.Given as goal

abbrev pub invariant-loop-text : goal.invariant-loop-text
invariant-loop-text l = record {
  same : table_from l.line (lines_in l.rest) l.table ≡ table_of l.bytes;
  counted : l.line + length l.rest ≤ length l.bytes + 1;
}

abbrev pub decreases-loop-text : goal.decreases-loop-text
decreases-loop-text l = length l.rest
