use Rattle.expunge_laws.proofs.Whole.{new_below, nothing_new}
use Rattle.expunge_laws.proofs.laws.an_expunge_adds_nothing.Goals as goal

pub returns : goal.returns
returns c = record { added = nothing_new; below = new_below }
