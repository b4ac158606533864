use Rattle.squash_laws.proofs.Added.{nothing_added, still_below}
use Rattle.squash_laws.proofs.laws.nothing_is_added.Goals as goal

pub returns : goal.returns
returns c = record {
  added = nothing_added;
  below = λ how set events new next h d. still_below how set events new h d next;
}
