use Rattle.coalesce_laws.proofs.Rows.{last_two_joined, three_joined, two_ends}
use Rattle.coalesce_laws.proofs.examples.a_chain_becomes_its_last_commit.Goals as goal

pub returns : goal.returns
returns c = record { whole = three_joined; rear = last_two_joined; ends = two_ends }
