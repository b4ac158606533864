use Rattle.coalesce_laws.proofs.Coalesced.{all_over}
use Rattle.coalesce_laws.proofs.laws.commits_take_over_the_joined_ones.Goals as goal

pub returns : goal.returns
returns c = all_over
