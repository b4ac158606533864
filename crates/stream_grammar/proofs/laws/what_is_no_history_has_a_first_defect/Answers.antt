use Rattle.line_automaton.specs.Machine.{outcome, all}
use Rattle.stream_grammar.specs.Lines.{stream}
use Rattle.stream_grammar.proofs.FirstDefect.{first_defect, either}
use Rattle.stream_grammar.proofs.laws.what_is_no_history_has_a_first_defect.Goals as goal

pub returns : goal.returns
returns c = record { first = first_defect; either = λ bytes. either (outcome stream all bytes) }
