use Rattle.script_lines.proofs.WordLaws.{found_again}
use Rattle.script_lines.proofs.laws.words_are_found_again.Goals as goal

pub returns : goal.returns
returns c = found_again
