use Rattle.std.proofs.Common.{◌+◌, ◌≤◌, length}
use Rattle.mailbox_laws.specs.Boxes.{InHeaders, lines_in, rest_from}
use Rattle.mailbox_reader.specs.Reading.{Reads}
use Rattle.mailbox_reader.proofs.reading.head_of.Given as goal

abbrev pub invariant-loop-line : goal.invariant-loop-line
invariant-loop-line l = record {
  reads : Reads (lines_in l.rest) l.next (rest_from InHeaders l.first (lines_in l.bytes)) l.first l.said l.bad;
  fits : l.next + length l.rest ≤ l.first + length l.bytes;
  shorter : length l.rest ≤ length l.bytes;
}

abbrev pub decreases-loop-line : goal.decreases-loop-line
decreases-loop-line l = length l.rest
