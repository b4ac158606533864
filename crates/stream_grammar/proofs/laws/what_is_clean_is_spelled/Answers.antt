use Rattle.line_automaton.specs.Machine.{up_to}
use Rattle.stream_grammar.proofs.Spelled.{clean_is_spelled}
use Rattle.stream_grammar.proofs.laws.what_is_clean_is_spelled.Goals as goal

pub returns : goal.returns
returns c = λ n. clean_is_spelled (up_to n)
