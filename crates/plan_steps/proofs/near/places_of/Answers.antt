use Rattle.std.proofs.Common.{List, ℕ, suc, add-one, subst, sym}
use Rattle.plan_steps.proofs.NearPlaces.{ArePlacesTo, places_all, places_more, places_none, places_same}
use Rattle.plan_steps.proofs.near.places_of.Goals as goal
use Rattle.plan_steps.proofs.near.places_of.Goals.{then-flags-place+in_ok-push, else-flags-place}

pub loop-place-init : goal.loop-place-init
loop-place-init c = subst (ArePlacesTo 0 c.args.flags.now) (sym c.new-places.ensures.items) (places_none c.args.flags.now)

pub loop-place-preserved : goal.loop-place-preserved
loop-place-preserved c =
    let flags = c.args.flags.now in
    let place = c.loop-place.place in
    rw add-one (elim c.if-flags-place.branch [
      | then-flags-place+in_ok-push w ↦ rw w.places-is (subst (λ (xs : List ℕ). ArePlacesTo (suc place) flags xs) (sym w.in_ok-push.ensures.items)
          (places_more place flags c.loop-place.places.items w.if-flags-place.true c.loop-place.invariant))
      | else-flags-place w ↦ rw w.places-is (places_same place flags c.loop-place.places.items w.if-flags-place.false c.loop-place.invariant)
    ])

pub returns : goal.returns
returns c = places_all c.loop-place.place c.args.flags.now c.loop-place.places.items c.loop-place-test.false c.loop-place.invariant
