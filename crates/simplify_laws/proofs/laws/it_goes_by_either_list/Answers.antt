use Rattle.simplify_laws.proofs.Again.{either_list}
use Rattle.simplify_laws.proofs.laws.it_goes_by_either_list.Goals as goal

pub returns : goal.returns
returns c = either_list
