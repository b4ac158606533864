use Rattle.simplify_laws.proofs.Rows.{put_away, put_before}
use Rattle.simplify_laws.proofs.examples.a_put_before_a_deletion_stays.Goals as goal

pub returns : goal.returns
returns c = record { done = put_before; its_tree = put_away }
