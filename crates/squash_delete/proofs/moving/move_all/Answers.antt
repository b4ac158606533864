use Rattle.std.proofs.Common.{◌∙◌, ◌+◌, List, not, add-one, arith, ap}
use Rattle.plain_model.specs.declared.event.PlainEvent.{PlainEvent}
use Rattle.plan_steps.specs.Leaving.{event_after, goes, with_takings}
use Rattle.squash_delete.proofs.MovedPlaces.{MovedTo, moved_over}
use Rattle.plan_steps.proofs.Passes.{so_far_all}
use Rattle.squash_delete.proofs.moving.move_all.Goals as goal

pub loop-place-init : goal.loop-place-init
loop-place-init c =
    let near = c.next_near-place.ensures in
    let plan = c.args.plan.now in
    record {
      within = near.within;
      moved = moved_over c.args.removal.now.set c.args.removal.now.events c.count-count.ensures.sound c.args.targets.now plan plan 0 c.next_near-place.result
          near.later near.within near.apart (λ par takes t was. ap (λ (es : List PlainEvent). record plan { after = es }) was);
    }

pub loop-place-preserved : goal.loop-place-preserved
loop-place-preserved c =
    let events = c.args.removal.now.events in
    let set = c.args.removal.now.set in
    let place = c.loop-place.place in
    let near = c.next_near-place-in-loop-place.ensures in
    let one_more : MovedTo set events c.args.targets.now c.args.plan.now c.move_at.new.plan (place + 1) =
    λ par takes t was. rw add-one (c.in_ok-move_at.ensures par takes c.args.plan.now t (c.loop-place.invariant.moved par takes t was)) in
    record {
      within = near.within;
      moved = moved_over set events c.count-count.ensures.sound c.args.targets.now c.args.plan.now c.move_at.new.plan (place + 1) c.next_near-place-in-loop-place.result
          near.later near.within near.apart one_more;
    }

pub returns : goal.returns
returns c par takes t was =
    let events = c.args.removal.now.events in
    let set = c.args.removal.now.set in
    let all = c.loop-place-test.false in
    let count = c.count-count.ensures.count in
    c.loop-place.invariant.moved par takes t was
    ∙ ap (λ (es : List PlainEvent). record c.args.plan.now { after = es }) (so_far_all (λ e. not (goes set takes e)) (with_takings par takes) (event_after par takes) c.loop-place.place events (omega arith))
