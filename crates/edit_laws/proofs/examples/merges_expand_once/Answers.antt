use Rattle.edit_laws.proofs.Rows.{merges_expanded}
use Rattle.edit_laws.proofs.examples.merges_expand_once.Goals as goal

pub returns : goal.returns
returns c = merges_expanded
