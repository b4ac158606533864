use Rattle.line_automaton.proofs.ExampleLaws.{stops}
use Rattle.line_automaton.proofs.laws.first_refusal_is_the_defect.Goals as goal

pub returns : goal.returns
returns c = stops
