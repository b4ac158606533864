use Rattle.stream_grammar.proofs.FirstDefect.{stops}
use Rattle.stream_grammar.proofs.laws.first_refusal_is_the_first_defect.Goals as goal

pub returns : goal.returns
returns c = stops
