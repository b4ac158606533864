use Rattle.coalesce_laws.proofs.Joined.{with_child}
use Rattle.coalesce_laws.proofs.Staying.{all_stay}
use Rattle.coalesce_laws.proofs.laws.only_joined_commits_go.Goals as goal

pub returns : goal.returns
returns c = record { events = all_stay; joined = with_child }
