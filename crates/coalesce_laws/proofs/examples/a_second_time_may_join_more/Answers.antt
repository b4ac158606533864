use Rattle.coalesce_laws.proofs.Rows.{joined_first, joined_second}
use Rattle.coalesce_laws.proofs.examples.a_second_time_may_join_more.Goals as goal

pub returns : goal.returns
returns c = record { first = joined_first; second = joined_second }
