use Rattle.std.proofs.Common.{refl}
use Rattle.plain_model.specs.Parts.{number_of}
use Rattle.line_automaton.proofs.examples.limits_are_passed.Goals as goal

pub returns : goal.returns
unfolding number_of
returns c = record {
  third = refl;
  defect_first = refl;
  second = refl;
}
