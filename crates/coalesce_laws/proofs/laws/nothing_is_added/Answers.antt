use Rattle.coalesce_laws.proofs.Added.{added_nothing, still_below}
use Rattle.coalesce_laws.proofs.laws.nothing_is_added.Goals as goal

pub returns : goal.returns
returns c = record { added = added_nothing; below = λ seconds set events next h. still_below seconds set events h next }
