use Rattle.line_automaton.specs.Machine.{all}
use Rattle.line_automaton.specs.Example.{example}
use Rattle.line_automaton.proofs.LineLaws.{line_count_end}
use Rattle.line_automaton.proofs.ReadingLaws as reading
use Rattle.line_automaton.proofs.laws.a_line_goes_on_or_stops.Goals as goal

pub returns : goal.returns
returns c = record {
  begins = reading.begins example all;
  next = λ text before rest line after s new is there e. reading.goes_on example all text rest line after s (line_count_end text before rest is) there new e;
  over = λ text before rest line after s new is there e. reading.is_over example all text rest line after s (line_count_end text before rest is) there new e;
  refused = λ text before rest line after s why is there e. reading.is_refused example all text rest line after s (line_count_end text before rest is) there why e;
  ends = reading.ends example all;
}
