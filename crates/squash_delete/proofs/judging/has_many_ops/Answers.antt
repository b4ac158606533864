use Rattle.std.proofs.Common.{◌≡◌, ◌+◌, ◌∷◌, ℕ, suc, [], List, arith, add-one, ap, sym, take}
use Rattle.plain_model.specs.declared.event.PlainEvent.{PlainEvent}
use Rattle.plain_model.specs.declared.limit.TheConstants.{MAX_OPERATIONS}
use Rattle.history_laws.proofs.Lists.{item_at}
use Rattle.event_arena.proofs.ListLemmas.{take_all}
use Rattle.edit_laws.specs.Parts.{tally}
use Rattle.edit_laws.proofs.Limits.{not_many}
use Rattle.std.proofs.lemmas.Bool.{lt-ltb}
use Rattle.plan_steps.proofs.Counting.{tally_item, tally_less}
use Rattle.squash_delete.specs.Fates.{left_events, left_some}
use Rattle.squash_delete.specs.Sources.{count_ops}
use Rattle.squash_delete.proofs.ForwardLemmas.{ops_each}
use Rattle.squash_delete.proofs.judging.has_many_ops.Goals as goal

pub returns-then-total-count : goal.returns-then-total-count
returns-then-total-count c comments tags table =
    let set = c.args.removal.now.set in
    let events = c.args.removal.now.events in
    let own : PlainEvent → ℕ = λ e. count_ops (left_some set events comments tags (e ∷ [])) in
    let k = c.loop-place.place in
    let count = c.count-place-end.ensures.count in
    let test = c.loop-place-test.true in
    let item = item_at events k (omega arith) in
    let more = tally_item own events k item.0 item.1 in
    let so_far = c.loop-place.invariant.sum comments tags table in
    let its = c.count_at-count.ensures comments tags item.0 table item.1 in
    let less = tally_less own events (suc k) in
    let whole : tally own events ≡ count_ops (left_events set events comments tags) = ops_each set events comments tags events in
    let low = c.loop-place.invariant.low in
    let passed = c.if-total-count.true in
    sym (lt-ltb MAX_OPERATIONS (count_ops (left_events set events comments tags)) (omega arith))

pub loop-place-preserved : goal.loop-place-preserved
loop-place-preserved c =
    let set = c.args.removal.now.set in
    let events = c.args.removal.now.events in
    let k = c.loop-place.place in
    let low = c.loop-place.invariant.low in
    let within = c.if-total-count.false in
    record {
      low = omega arith;
      sum = λ comments tags table.
          let own : PlainEvent → ℕ = λ e. count_ops (left_some set events comments tags (e ∷ [])) in
          let count = c.count-place-end.ensures.count in
          let test = c.loop-place-test.true in
          let item = item_at events k (omega arith) in
          let more : tally own (take (suc k) events) ≡ tally own (take k events) + own item.0 = tally_item own events k item.0 item.1 in
          let so_far = c.loop-place.invariant.sum comments tags table in
          let its = c.count_at-count.ensures comments tags item.0 table item.1 in
          let sum : c.loop-place.total + c.count_at-count.result ≡ tally own (take (suc k) events) = omega arith in
          rw add-one sum;
    }

pub returns : goal.returns
returns c comments tags table =
    let set = c.args.removal.now.set in
    let events = c.args.removal.now.events in
    let own : PlainEvent → ℕ = λ e. count_ops (left_some set events comments tags (e ∷ [])) in
    let count = c.count-place-end.ensures.count in
    let test = c.loop-place-test.false in
    let all : tally own (take c.loop-place.place events) ≡ tally own events = ap (λ (es : List PlainEvent). tally own es) (take_all events c.loop-place.place (omega arith)) in
    let so_far = c.loop-place.invariant.sum comments tags table in
    let whole : tally own events ≡ count_ops (left_events set events comments tags) = ops_each set events comments tags events in
    let low = c.loop-place.invariant.low in
    sym (not_many MAX_OPERATIONS (count_ops (left_events set events comments tags)) (omega arith))
