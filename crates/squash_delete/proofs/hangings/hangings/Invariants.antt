use Rattle.squash_delete.specs.Hangings.{AreHungTo}
use Rattle.squash_delete.proofs.hangings.hangings.Given as goal

abbrev pub invariant-loop-place : goal.invariant-loop-place
invariant-loop-place l = AreHungTo l.removal.set l.removal.events l.place l.rows.items
