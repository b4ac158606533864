use Rattle.tagify_laws.proofs.Done.{edit}
use Rattle.tagify_laws.proofs.laws.a_tagify_is_an_edit.Goals as goal

pub returns : goal.returns
returns c = edit
