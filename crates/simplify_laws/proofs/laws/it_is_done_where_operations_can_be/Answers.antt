use Rattle.simplify_laws.proofs.Exact.{is_done, only_done}
use Rattle.simplify_laws.proofs.laws.it_is_done_where_operations_can_be.Goals as goal

pub returns : goal.returns
returns c = record {
  done = λ set events h can. is_done set events h can;
  only = only_done;
}
