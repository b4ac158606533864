use Rattle.reparent_laws.proofs.Operated.{add_fits, add_others, remove_fits, remove_others}
use Rattle.reparent_laws.proofs.laws.other_operations_are_replayed.Goals as goal

pub returns : goal.returns
returns c = record {
  added_ops = add_others;
  added_trees = λ spelled set events new h its fits d. add_fits spelled set events new h its fits d;
  left_ops = remove_others;
  left_trees = λ what set events new h d. remove_fits what set events new h d;
}
