use Rattle.line_automaton.proofs.ExampleLaws.{one_defect}
use Rattle.line_automaton.proofs.laws.the_first_defect_is_one.Goals as goal

pub returns : goal.returns
returns c = one_defect
