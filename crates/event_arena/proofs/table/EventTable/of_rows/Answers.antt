use Rattle.std.proofs.Common.{take, sym, subst, add-one, arith}
use Rattle.std.proofs.lemmas.List.{length-take-le}
use Rattle.event_arena.specs.Rows.{IsNoted, IsPlaced, in_rows}
use Rattle.event_arena.proofs.DistinctLemmas.{distinct_before}
use Rattle.event_arena.proofs.ListLemmas.{take_all, take_item}
use Rattle.event_arena.proofs.PlaceLemmas.{placed_more}
use Rattle.event_arena.proofs.RowLemmas.{names_get, names_length}
use Rattle.event_arena.proofs.table.EventTable.of_rows.Goals as goal

pub loop-place-preserved : goal.loop-place-preserved
loop-place-preserved c =
    let es = in_rows c.args.store c.args.rows.items in
    let k = c.loop-place.place in
    let long = names_length c.args.store c.args.rows.items es c.requires.named in
    let fits = c.args.rows.ok.0 in
    let count = c.len-place-end.ensures in
    let test = c.loop-place-test.true in
    let e = names_get c.args.store c.args.rows.items es k c.index.result.now c.requires.named (omega arith) c.index.ensures in
    let absent = distinct_before es k e.0 c.requires.once e.1 in
    let last = sym (length-take-le k es (omega arith)) in
    let note = subst (λ i. IsNoted i k c.loop-place.places c.note.new.self) (sym e.2.1) c.in_ok-note.ensures.ok in
    rw add-one (subst (IsPlaced c.note.new.self) (sym (take_item es k e.0 e.1)) (placed_more c.loop-place.places c.note.new.self e.0 k (take k es) last absent note c.loop-place.invariant))

pub invariant_of-result : goal.invariant_of-result
invariant_of-result c =
    let es = in_rows c.args.store c.args.rows.items in
    let long = names_length c.args.store c.args.rows.items es c.requires.named in
    let fits = c.args.rows.ok.0 in
    let count = c.len-place-end.ensures in
    let past = c.loop-place-test.false in
    let all = take_all es c.loop-place.place (omega arith) in
    rw (c.in_ok-places.ensures.ok, c.in_ok-rows.ensures.ok) (record { listed = c.requires; placed = subst (IsPlaced c.loop-place.places) all c.loop-place.invariant })
