use Rattle.std.proofs.Common.{◌≡◌, ◌∙◌, ◌∷◌, ◌++◌, [], take, sym, add-one, arith}
use Rattle.event_arena.proofs.ListLemmas.{take_all, take_item}
use Rattle.event_arena.proofs.table.EventTable.to_list.Goals as goal

pub loop-place-preserved : goal.loop-place-preserved
loop-place-preserved c =
    let so_far : c.loop-place.list ≡ take c.loop-place.place c.args.self.now = c.loop-place.invariant in
    rw add-one (
    c.in_ok-push.ensures.ok
    ∙ (λ i. so_far i ++ (c.of_rc.ensures ∙ c.in_ok-clone.ensures.cases) i ∷ [])
    ∙ sym (take_item c.args.self.now c.loop-place.place c.row.result.now.value c.row.ensures)
    )

pub returns : goal.returns
returns c =
    let count = c.count-place-end.ensures in
    let ended = c.loop-place-test.false in
    let so_far : c.loop-place.list ≡ take c.loop-place.place c.args.self.now = c.loop-place.invariant in
    c.of_rows.ensures ∙ so_far ∙ take_all c.args.self.now c.loop-place.place (omega arith)
