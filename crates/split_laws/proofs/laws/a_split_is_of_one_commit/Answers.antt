use Rattle.split_laws.proofs.Edits.{at_one, by_one}
use Rattle.split_laws.proofs.laws.a_split_is_of_one_commit.Goals as goal

pub returns : goal.returns
returns c = record { at = at_one; by = by_one }
