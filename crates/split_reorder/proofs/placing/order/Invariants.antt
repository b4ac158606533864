use Rattle.std.proofs.Common.{◌≡◌, ◌++◌, drop}
use Rattle.split_reorder.specs.Ordered.{ordered}
use Rattle.split_reorder.proofs.placing.order.Given as goal

abbrev pub invariant-loop-place : goal.invariant-loop-place
invariant-loop-place l = l.ids ++ ordered l.places.set l.left (drop l.place l.places.events) ≡ ordered l.places.set l.fn.commits l.places.events
