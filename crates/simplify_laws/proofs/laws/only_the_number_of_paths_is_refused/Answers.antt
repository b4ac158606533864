use Rattle.simplify_laws.proofs.Simplified.{only_paths}
use Rattle.simplify_laws.proofs.laws.only_the_number_of_paths_is_refused.Goals as goal

pub returns : goal.returns
returns c = λ set events why h d. only_paths set events h why d
