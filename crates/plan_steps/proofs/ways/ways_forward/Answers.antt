use Rattle.std.proofs.Common.{suc, arith, subst, sym}
use Rattle.plan_steps.specs.Ways.{AreForwardFrom}
use Rattle.plan_steps.proofs.NearPlaces.{forward_over}
use Rattle.plan_steps.proofs.ways.ways_forward.Goals as goal

pub lead_parents-requires-clause-ways : goal.lead_parents-requires-clause-ways
lead_parents-requires-clause-ways c =
    let events = c.args.removal.now.events in
    let set = c.args.removal.now.set in
    let near = c.in-Some.near in
    let place = c.loop-near.place in
    let earlier = c.in-Some.ensures.0 in
    subst (AreForwardFrom set events (suc near)) (sym c.deref_mut.ensures.value)
    (forward_over set events c.loop-near.ways.items (suc near) place (omega arith) c.loop-near.invariant.within c.in-Some.ensures.1 c.loop-near.invariant.forward)

pub returns : goal.returns
returns c =
    forward_over c.args.removal.now.set c.args.removal.now.events c.loop-near.ways.items 0 c.loop-near.place (omega arith) c.loop-near.invariant.within
    c.in_default.ensures c.loop-near.invariant.forward
