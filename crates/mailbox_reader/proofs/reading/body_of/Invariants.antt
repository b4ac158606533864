use Rattle.std.proofs.Common.{◌+◌, ◌≤◌, length}
use Rattle.mailbox_laws.specs.Boxes.{lines_in}
use Rattle.mailbox_reader.specs.Reading.{Goes}
use Rattle.mailbox_reader.proofs.reading.body_of.Given as goal

abbrev pub invariant-loop-line : goal.invariant-loop-line
invariant-loop-line l = record {
  goes : Goes (lines_in l.rest) l.next l.count (lines_in l.bytes) l.first;
  fits : l.next + length l.rest ≤ l.first + length l.bytes;
  shorter : length l.rest ≤ length l.bytes;
  counts : l.count + length l.rest ≤ length l.bytes;
}

abbrev pub decreases-loop-line : goal.decreases-loop-line
decreases-loop-line l = length l.rest
