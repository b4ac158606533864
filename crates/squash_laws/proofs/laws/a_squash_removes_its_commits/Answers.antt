use Rattle.squash_laws.proofs.Done.{done_commits}
use Rattle.squash_laws.proofs.laws.a_squash_removes_its_commits.Goals as goal

pub returns : goal.returns
returns c = done_commits
