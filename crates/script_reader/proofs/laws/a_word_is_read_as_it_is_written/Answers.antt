use Rattle.script_reader.proofs.SaidEdits.{word_again}
use Rattle.script_reader.proofs.WordsAgain.{keyword_again}
use Rattle.script_reader.proofs.laws.a_word_is_read_as_it_is_written.Goals as goal

pub returns-clause-edits : goal.returns-clause-edits
returns-clause-edits c = word_again

pub returns-clause-all : goal.returns-clause-all
returns-clause-all c = keyword_again
