use Rattle.std.proofs.Common.{subst}
use Rattle.graph_walk.proofs.FlagLemmas.{if_ok}
use Rattle.plan_steps.specs.Near.{ArePlacesOf}
use Rattle.plan_steps.proofs.NearPlaces.{near_places}
use Rattle.plan_steps.proofs.near.places_near.Goals as goal

pub returns : goal.returns
returns c = if_ok c.places_of.result _ _ (λ places p.
    near_places c.args.set.now c.args.events.now.list c.in_ok-near.near.items places.items c.in_ok-near.ensures
    (subst (λ flags. ArePlacesOf flags places.items) c.deref.ensures.value p)) c.places_of.ensures
