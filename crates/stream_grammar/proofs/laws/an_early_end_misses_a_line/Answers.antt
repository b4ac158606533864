use Rattle.stream_grammar.proofs.FirstDefect.{ends_early}
use Rattle.stream_grammar.proofs.laws.an_early_end_misses_a_line.Goals as goal

pub returns : goal.returns
returns c = ends_early
