use Rattle.simplify_laws.proofs.Kept.{result_blobs}
use Rattle.simplify_laws.proofs.laws.blobs_go_where_nothing_names_them.Goals as goal

pub returns : goal.returns
returns c = result_blobs
