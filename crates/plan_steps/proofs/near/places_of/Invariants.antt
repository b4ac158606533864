use Rattle.plan_steps.proofs.NearPlaces.{ArePlacesTo}
use Rattle.plan_steps.proofs.near.places_of.Given as goal

abbrev pub invariant-loop-place : goal.invariant-loop-place
invariant-loop-place l = ArePlacesTo l.place l.flags l.places.items
