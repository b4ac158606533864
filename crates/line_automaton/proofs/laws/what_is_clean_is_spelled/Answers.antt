use Rattle.line_automaton.specs.Machine.{up_to}
use Rattle.line_automaton.proofs.ExampleLaws.{spelled}
use Rattle.line_automaton.proofs.laws.what_is_clean_is_spelled.Goals as goal

pub returns : goal.returns
returns c = λ n. spelled (up_to n)
