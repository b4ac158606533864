use Rattle.commit_laws.proofs.Found.{all_found}
use Rattle.commit_laws.proofs.laws.a_commit_is_found_as_it_is.Goals as goal

pub returns : goal.returns
returns c = all_found
