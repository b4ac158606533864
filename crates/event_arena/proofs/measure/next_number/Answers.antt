use Rattle.std.proofs.Common.{◌≡◌, ◌∙◌, ◌+◌, suc, take, max, ap, add-one, arith}
use Rattle.plain_model.specs.Lookups.{id_number, id_of, next_number}
use Rattle.event_arena.proofs.ListLemmas.{fold_push, take_item}
use Rattle.event_arena.proofs.MeasureLemmas.{below_at}
use Rattle.event_arena.proofs.measure.next_number.Goals as goal

pub overflow_add-id_number : goal.overflow_add-id_number
overflow_add-id_number c =
    let here = c.id_at.ensures in
    let below = below_at 4611686018427387904 c.args.table.now c.loop-place.place here.0 c.requires here.1 in
    let own = c.id_number.ensures ∙ ap id_number here.2 in
    omega arith

pub loop-place-preserved : goal.loop-place-preserved
loop-place-preserved c =
    let so_far = c.loop-place.invariant in
    let here = c.id_at.ensures in
    let more : next_number (take (suc c.loop-place.place) c.args.table.now) ≡ max (next_number (take c.loop-place.place c.args.table.now)) (id_number (id_of here.0) + 1)
    = ap next_number (take_item c.args.table.now c.loop-place.place here.0 here.1)
    ∙ fold_push (λ n e. max n (id_number (id_of e) + 1)) 1 (take c.loop-place.place c.args.table.now) here.0 in
    let below = below_at 4611686018427387904 c.args.table.now c.loop-place.place here.0 c.requires here.1 in
    let own : c.id_number.result ≡ id_number (id_of here.0) = c.id_number.ensures ∙ ap id_number here.2 in
    let greater = c.max-next.ensures in
    rw add-one (record { value = rw (more, ← so_far.value, ← own) greater; low = omega arith })
