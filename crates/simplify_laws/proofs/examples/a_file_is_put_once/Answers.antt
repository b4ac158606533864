use Rattle.simplify_laws.proofs.Rows.{put_once}
use Rattle.simplify_laws.proofs.examples.a_file_is_put_once.Goals as goal

pub returns : goal.returns
returns c = put_once
