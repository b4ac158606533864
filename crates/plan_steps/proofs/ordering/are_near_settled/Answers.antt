use Rattle.std.proofs.Common.{◌+◌, add-one, arith}
use Rattle.std.proofs.lemmas.Option.{slice_get_within}
use Rattle.plan_steps.proofs.NearPlaces.{AreReadyTo, ready_more, ready_over}
use Rattle.plan_steps.proofs.ordering.are_near_settled.Goals as goal

pub loop-place-init : goal.loop-place-init
loop-place-init c =
    let near = c.next_near-place.ensures in
    record {
      within = near.within;
      ready = ready_over c.args.removal.now.set c.args.removal.now.events c.args.plan.now.after 0 c.next_near-place.result near.later near.within near.apart
          (λ k p e d low at near there is. absurd (omega arith));
    }

pub loop-place-preserved : goal.loop-place-preserved
loop-place-preserved c =
    let events = c.args.removal.now.events in
    let set = c.args.removal.now.set in
    let left = c.args.plan.now.after in
    let place = c.loop-place.place in
    let near = c.next_near-place-in-loop-place.ensures in
    let one_more : AreReadyTo set events left (place + 1) =
    rw add-one (ready_more set events left place c.loop-place.invariant.ready (λ p e d at around there is.
    c.is_settled_at.ensures e d p at there is c.if-not-is_settled_at.false)) in
    record { within = near.within; ready = ready_over set events left (place + 1) c.next_near-place-in-loop-place.result near.later near.within near.apart one_more }

pub returns : goal.returns
returns c is k p e d at near there left =
    let all = c.loop-place-test.false in
    let count = c.count-count.ensures.count in
    let low = slice_get_within c.args.removal.now.events k e at in
    c.loop-place.invariant.ready k p e d (omega arith) at near there left
