use Rattle.squash_laws.proofs.Added.{each_as_it_was}
use Rattle.squash_laws.proofs.laws.what_stays_is_as_it_was.Goals as goal

pub returns : goal.returns
returns c = each_as_it_was
