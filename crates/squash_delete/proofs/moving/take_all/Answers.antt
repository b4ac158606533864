use Rattle.std.proofs.Common.{◌∙◌, List, suc, not, filter, map, add-one, arith, ap, sym, true≢false}
use Rattle.plain_model.specs.declared.event.PlainEvent.{PlainEvent}
use Rattle.plain_model.specs.declared.limit.TheConstants.{MAX_OPERATIONS}
use Rattle.history_laws.proofs.Lists.{item_at}
use Rattle.squash_laws.specs.Takings.{takes}
use Rattle.plan_steps.specs.Leaving.{goes, with_own_parents, with_takings}
use Rattle.squash_delete.specs.Sources.{count_ops, push_of}
use Rattle.squash_delete.proofs.MovingLemmas.{counted_left, counted_later, counted_more, counted_passed, own_count}
use Rattle.plan_steps.proofs.Passes.{so_far_all}
use Rattle.squash_delete.proofs.moving.take_all.Goals as goal
use Rattle.squash_delete.proofs.moving.take_all.Goals.{then-bounded+else-total-count, else-bounded}

pub loop-place-init : goal.loop-place-init
loop-place-init c =
    let near = c.next_taking-place.ensures in
    record {
      within = near.within;
      low = omega arith;
      taken = λ par tags start was. (was ∙ ap (λ (es : List PlainEvent). record start { after = es }) (near.apart par tags), λ so. omega arith);
    }

pub returns-then-total-count : goal.returns-then-total-count
returns-then-total-count c par tags start was =
    let events = c.args.removal.now.events in
    let set = c.args.removal.now.set in
    let sound = c.count-end.ensures.sound in
    let taking = takes set events (record { push = push_of c.args.sources.now; tags = tags }) in
    let inv = c.loop-place.invariant.taken par tags start was in
    let low = c.loop-place.invariant.low in
    let place = c.loop-place.place in
    let item = item_at events place (let test = c.loop-place-test.true in let count = c.count-end.ensures.count in omega arith) in
    let step = c.in_ok-count.ensures par tags item.0 item.1 start inv.0 in
    let test = c.if-total-count.true in (
      c.if-bounded.true,
      counted_passed (own_count set events sound par taking) (λ es. count_ops (map (with_takings par taking) (filter (λ e. not (goes set taking e)) es))) (counted_left set events sound par taking) MAX_OPERATIONS
          events place c.loop-place.total c.in_ok-count.count item.0 item.1 (inv.1 c.if-bounded.true) step.1 (omega arith),
    )

pub loop-place-preserved : goal.loop-place-preserved
loop-place-preserved c =
    let events = c.args.removal.now.events in
    let set = c.args.removal.now.set in
    let sound = c.count-end.ensures.sound in
    let low = c.loop-place.invariant.low in
    let place = c.loop-place.place in
    let item = item_at events place (let test = c.loop-place-test.true in let count = c.count-end.ensures.count in omega arith) in
    let near = c.next_taking-place-in-loop-place.ensures in
    record {
      within = near.within;
      low = elim c.if-bounded.branch [
        | then-bounded+else-total-count w ↦ let test = w.if-total-count.false in let is = w.total-is in omega arith
        | else-bounded w ↦ let is = w.total-is in omega arith
      ];
      taken = λ par tags start was.
          let taking = takes set events (record { push = push_of c.args.sources.now; tags = tags }) in
          let inv = c.loop-place.invariant.taken par tags start was in
          let step = c.in_ok-count.ensures par tags item.0 item.1 start inv.0 in (
            step.0 ∙ ap (λ (es : List PlainEvent). record start { after = es }) (rw add-one at (near.apart par tags)),
            λ so. elim c.if-bounded.branch [
              | then-bounded+else-total-count w ↦
                  let is = w.total-is in
                  let more = counted_more (own_count set events sound par taking) (λ es. count_ops (map (with_takings par taking) (filter (λ e. not (goes set taking e)) es))) (counted_left set events sound par taking)
                  events place c.loop-place.total c.in_ok-count.count item.0 item.1 (inv.1 so) step.1 in
                  let later = counted_later (own_count set events sound par taking) (λ es. count_ops (map (with_takings par taking) (filter (λ e. not (goes set taking e)) es))) (counted_left set events sound par taking)
                  events (suc place) c.next_taking-place-in-loop-place.result (rw add-one at near.later) near.within in
                  omega arith
              | else-bounded w ↦ absurd (true≢false (sym so ∙ w.if-bounded.false))
            ],
          );
    }

pub returns : goal.returns
returns c par tags start was =
    let events = c.args.removal.now.events in
    let set = c.args.removal.now.set in
    let taking = takes set events (record { push = push_of c.args.sources.now; tags = tags }) in
    let inv = c.loop-place.invariant.taken par tags start was in
    let all = c.loop-place-test.false in
    let count = c.count-end.ensures.count in
    inv.0 ∙ ap (λ (es : List PlainEvent). record start { after = es }) (so_far_all (λ e. not (goes set taking e)) (with_own_parents par) (with_takings par taking) c.loop-place.place events (omega arith))
