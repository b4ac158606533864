use Rattle.line_automaton.specs.Machine.{all}
use Rattle.line_automaton.specs.Example.{example}
use Rattle.line_automaton.proofs.Runs.{run_append}
use Rattle.line_automaton.proofs.DrivingLaws.{any_pieces}
use Rattle.line_automaton.proofs.laws.any_pieces_are_read_alike.Goals as goal

pub returns : goal.returns
returns c = record { two = run_append example all; more = any_pieces example all }
