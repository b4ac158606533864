use Rattle.field_laws.proofs.PathsAgain.{path_again}
use Rattle.field_laws.proofs.laws.paths_are_read_again.Goals as goal

pub returns : goal.returns
returns c = path_again
