use Rattle.coalesce_laws.proofs.Unchanged.{unchanged}
use Rattle.coalesce_laws.proofs.laws.nothing_changes_where_none_is_joined.Goals as goal

pub returns : goal.returns
returns c = unchanged
