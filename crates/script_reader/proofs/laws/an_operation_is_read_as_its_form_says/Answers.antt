use Rattle.script_reader.proofs.OpWords.{add_says, says_add}
use Rattle.script_reader.proofs.laws.an_operation_is_read_as_its_form_says.Goals as goal

pub returns : goal.returns
returns c = λ words op. (add_says words op, says_add words op)
