use Rattle.std.proofs.Common.{◌≡◌, ◌∙◌, suc, take, max, ap, add-one, arith}
use Rattle.plain_model.specs.Lookups.{greatest_mark, top_mark}
use Rattle.event_arena.proofs.ListLemmas.{fold_push, take_item}
use Rattle.event_arena.proofs.measure.greatest_mark.Goals as goal

pub loop-place-preserved : goal.loop-place-preserved
loop-place-preserved c =
    let so_far = c.loop-place.invariant in
    let more : greatest_mark (take (suc c.loop-place.place) c.args.table.now) ≡ max (greatest_mark (take c.loop-place.place c.args.table.now)) (top_mark c.nth.result.now)
    = ap greatest_mark (take_item c.args.table.now c.loop-place.place c.nth.result.now c.nth.ensures.event)
    ∙ fold_push (λ n e. max n (top_mark e)) 0 (take c.loop-place.place c.args.table.now) c.nth.result.now in
    let own = c.top_mark.ensures in
    let greater = c.max-greatest.ensures in
    rw add-one (record { value = rw (more, ← so_far.value, ← own.value) greater; range = omega arith })
