use Rattle.commit_laws.proofs.Greatest.{next_a_mark, next_unmarked}
use Rattle.commit_laws.proofs.laws.the_next_mark_is_new.Goals as goal

pub returns : goal.returns
returns c = record { new = next_unmarked; mark = λ events mark h. next_a_mark events mark h.spelled }
