use Rattle.std.proofs.Common.{arith}
use Rattle.plain_model.proofs.Lines.{line_is}
use Rattle.line_automaton.proofs.LineLaws.{number_after_line, number_after_at, line_count_last}
use Rattle.line_automaton.proofs.laws.numbers_count_line_feeds.Goals as goal

pub returns : goal.returns
returns c = record {
  at_a_byte = number_after_at;
  at_the_end = λ n text. omega arith;
  lines = line_count_last;
  after_a_line = λ n text line rest there. number_after_line n text line rest (line_is text line rest there);
}
