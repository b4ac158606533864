use Rattle.coalesce_laws.proofs.Coalesced.{all_one}
use Rattle.coalesce_laws.proofs.laws.what_stays_is_as_it_was.Goals as goal

pub returns : goal.returns
returns c = all_one
