use Rattle.expunge_laws.proofs.Added.{nothing_added, still_below}
use Rattle.expunge_laws.proofs.Finished.{finish_stays}
use Rattle.expunge_laws.proofs.forward.a_push_forward_adds_nothing.Goals as goal

pub returns : goal.returns
returns c = record {
  added = nothing_added;
  below = λ before set events comments tags new next is. still_below before set events comments tags new is next;
  stays = finish_stays;
}
