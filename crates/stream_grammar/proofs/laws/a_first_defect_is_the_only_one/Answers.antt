use Rattle.stream_grammar.proofs.FirstDefect.{only}
use Rattle.stream_grammar.proofs.Spelled.{one_line}
use Rattle.stream_grammar.proofs.laws.a_first_defect_is_the_only_one.Goals as goal

pub returns : goal.returns
returns c = record { line = one_line; kind = only }
