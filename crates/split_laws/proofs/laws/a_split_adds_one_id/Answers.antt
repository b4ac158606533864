use Rattle.split_laws.proofs.NewIds.{at_ids, by_ids}
use Rattle.split_laws.proofs.laws.a_split_adds_one_id.Goals as goal

pub returns : goal.returns
returns c = record { at = at_ids; by = by_ids }
