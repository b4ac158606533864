use Rattle.squash_delete.specs.Standings.{AreStandingTo}
use Rattle.squash_delete.proofs.standing.standings.Given as goal

abbrev pub invariant-loop-place : goal.invariant-loop-place
invariant-loop-place l = AreStandingTo l.removal.set l.removal.events l.place l.rows.items
