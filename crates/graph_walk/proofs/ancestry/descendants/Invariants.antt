use Rattle.graph_walk.proofs.DescendantLemmas.{AreSettledTo}
use Rattle.graph_walk.proofs.ancestry.descendants.Given as goal

abbrev pub invariant-loop-place : goal.invariant-loop-place
invariant-loop-place l = AreSettledTo l.events.list l.set l.place l.flags.items
