use Rattle.squash_delete.specs.Backing.{AreCountedTo}
use Rattle.squash_delete.proofs.backing.count_children.Given as goal

abbrev pub invariant-loop-place : goal.invariant-loop-place
invariant-loop-place l = AreCountedTo l.removal.events l.place l.counts.items
