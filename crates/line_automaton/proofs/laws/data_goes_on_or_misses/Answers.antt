use Rattle.line_automaton.specs.Machine.{all}
use Rattle.line_automaton.specs.Example.{example}
use Rattle.line_automaton.proofs.LineLaws.{line_count_end}
use Rattle.line_automaton.proofs.ReadingLaws as reading
use Rattle.line_automaton.proofs.laws.data_goes_on_or_misses.Goals as goal

pub returns : goal.returns
returns c = record {
  there = λ text before rest line after bytes beyond s new next extent is there made follows spelled taken.
      reading.goes_on_after_data example all text rest line after s (line_count_end text before rest is) there new next extent made follows spelled bytes beyond taken;
  truncated = λ text before rest line after s new next extent why is there made follows spelled misses.
      reading.is_truncated example all text rest line after s (line_count_end text before rest is) there new next extent made follows spelled why misses;
}
