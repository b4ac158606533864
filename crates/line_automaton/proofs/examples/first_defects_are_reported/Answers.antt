use Rattle.std.proofs.Common.{refl}
use Rattle.plain_model.specs.Parts.{number_of}
use Rattle.line_automaton.proofs.examples.first_defects_are_reported.Goals as goal

pub returns : goal.returns
unfolding number_of
returns c = record {
  first = refl;
  by_form = refl;
  spelled = refl;
  missing = refl;
}
