use Rattle.std.proofs.Common.{refl}
use Rattle.plain_model.specs.Parts.{number_of}
use Rattle.line_automaton.proofs.examples.lines_have_their_numbers.Goals as goal

pub returns : goal.returns
unfolding number_of
returns c = record {
  after_a_block = refl;
  after_its_line_feed = refl;
  empty_line = refl;
  line_feed_and_block = refl;
  after_two_lines = refl;
  after_a_delimiter = refl;
}
