use Rattle.std.proofs.Common.{refl}
use Rattle.plain_model.specs.Parts.{number_of}
use Rattle.line_automaton.proofs.examples.texts_end_early.Goals as goal

pub returns : goal.returns
unfolding number_of
returns c = record {
  line_expected = refl;
  line_expected_after_a_line_feed = refl;
  line_expected_after_a_block = refl;
  block_cut = refl;
  block_misses_a_byte = refl;
  no_delimiter = refl;
}
