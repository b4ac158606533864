use Rattle.line_automaton.proofs.ExampleLaws.{ends_early}
use Rattle.line_automaton.proofs.laws.early_end_is_the_defect.Goals as goal

pub returns : goal.returns
returns c = ends_early
