use Rattle.std.proofs.Common.{◌≡◌, ◌≤◌, drop}
use Rattle.selection_parser.specs.Reading.{read_from, selection_at, times_of}
use Rattle.selection_parser.specs.Readers.{reader_of, state_of}
use Rattle.selection_parser.proofs.parsing.read.Given as goal

abbrev pub invariant-loop-n : goal.invariant-loop-n
invariant-loop-n l = record {
  so_far : read_from l.n (reader_of l.reader) (drop l.n l.bytes) ≡ selection_at l.bytes;
  few : times_of (state_of l.reader.state) ≤ l.n;
}
