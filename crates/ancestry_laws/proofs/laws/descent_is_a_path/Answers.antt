use Rattle.ancestry_laws.proofs.Paths.{descent_path}
use Rattle.ancestry_laws.proofs.laws.descent_is_a_path.Goals as goal

pub returns : goal.returns
returns c = descent_path
