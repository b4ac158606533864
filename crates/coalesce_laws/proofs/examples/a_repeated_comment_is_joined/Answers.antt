use Rattle.coalesce_laws.proofs.Rows.{far_apart, near_joined, one_selected}
use Rattle.coalesce_laws.proofs.examples.a_repeated_comment_is_joined.Goals as goal

pub returns : goal.returns
returns c = record { near = near_joined; far = far_apart; alone = one_selected }
