use Rattle.std.proofs.Common.{refl}
use Rattle.plain_model.specs.Parts.{number_of}
use Rattle.line_automaton.proofs.examples.texts_are_read.Goals as goal

pub returns : goal.returns
unfolding number_of
returns c = record {
  counted = refl;
  delimited = refl;
  unended = refl;
  over = refl;
  empty = refl;
}
