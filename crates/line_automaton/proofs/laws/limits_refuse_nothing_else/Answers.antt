use Rattle.line_automaton.specs.Machine.{all}
use Rattle.line_automaton.specs.Example.{example, items_passed}
use Rattle.line_automaton.proofs.LimitLaws.{limited_defect, limited_passes, limited_reads, limited_misses}
use Rattle.line_automaton.proofs.laws.limits_refuse_nothing_else.Goals as goal

pub returns : goal.returns
returns c = record {
  defect = limited_defect example items_passed all;
  limit = limited_passes example items_passed;
  read = limited_reads example items_passed all;
  missing = limited_misses example items_passed all;
}
