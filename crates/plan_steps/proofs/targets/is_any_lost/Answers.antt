use Rattle.std.proofs.Common.{◌∙◌, ◌+◌, add-one, arith, ap, refl, sym}
use Rattle.std.specs.Prelude.{is_some}
use Rattle.history_laws.proofs.Lists.{item_at}
use Rattle.plan_steps.proofs.Counting.{any_item, none_item as none_so_far}
use Rattle.plan_steps.specs.Targets.{lost_target}
use Rattle.plan_steps.proofs.NearPlaces.{NoneLostTo, lost_over}
use Rattle.plan_steps.proofs.targets.is_any_lost.Goals as goal

pub loop-place-init : goal.loop-place-init
loop-place-init c =
    let near = c.next_near-place.ensures in
    record {
      within = near.within;
      none = lost_over c.args.removal.now.set c.args.removal.now.events 0 c.next_near-place.result near.later near.within near.apart refl;
    }

pub returns-then-is_some : goal.returns-then-is_some
returns-then-is_some c =
    let events = c.args.removal.now.events in
    let item = item_at events c.loop-place.place (let test = c.loop-place-test.true in let count = c.count-count.ensures.count in omega arith) in
    sym (any_item (λ e. is_some (lost_target c.args.removal.now.set e)) events c.loop-place.place item.0 item.1
    (sym (ap is_some (c.lost_at.ensures item.0 item.1)) ∙ sym c.is_some.ensures ∙ c.if-is_some.true))

pub loop-place-preserved : goal.loop-place-preserved
loop-place-preserved c =
    let events = c.args.removal.now.events in
    let set = c.args.removal.now.set in
    let place = c.loop-place.place in
    let near = c.next_near-place-in-loop-place.ensures in
    let item = item_at events place (let test = c.loop-place-test.true in let count = c.count-count.ensures.count in omega arith) in
    let one_more : NoneLostTo set events (place + 1) =
    rw add-one (none_so_far (λ e. is_some (lost_target set e)) events place item.0 item.1 c.loop-place.invariant.none
    (sym (ap is_some (c.lost_at.ensures item.0 item.1)) ∙ sym c.is_some.ensures ∙ c.if-is_some.false)) in
    record { within = near.within; none = lost_over set events (place + 1) c.next_near-place-in-loop-place.result near.later near.within near.apart one_more }
