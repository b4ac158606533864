use Rattle.squash_laws.proofs.Rows.{two_joined}
use Rattle.squash_laws.proofs.examples.empty_comments_are_left_out.Goals as goal

pub returns : goal.returns
returns c = two_joined
