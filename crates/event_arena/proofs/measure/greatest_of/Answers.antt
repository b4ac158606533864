use Rattle.std.proofs.Common.{◌≡◌, ◌∙◌, suc, take, max, ap, add-one, arith}
use Rattle.plain_model.specs.Lookups.{greatest_of}
use Rattle.event_arena.proofs.ListLemmas.{fold_push, take_all, take_more}
use Rattle.event_arena.proofs.measure.greatest_of.Goals as goal

pub loop-mark-preserved : goal.loop-mark-preserved
loop-mark-preserved c =
    let so_far = c.loop-mark.invariant in
    let more : greatest_of c.args.first (take (suc c.loop-mark.mark-index) c.args.marks.now) ≡ max (greatest_of c.args.first (take c.loop-mark.mark-index c.args.marks.now)) c.mark-item.result
    = ap (greatest_of c.args.first) (take_more c.args.marks.now c.loop-mark.mark-index c.mark-item.result c.loop-mark-test.true c.mark-item.is)
    ∙ fold_push max c.args.first (take c.loop-mark.mark-index c.args.marks.now) c.mark-item.result in
    let own = c.number.ensures in
    let greater = c.max-greatest.ensures in
    rw add-one (record { value = rw (more, ← so_far.value, ← own.value) greater; range = omega arith })

pub returns-clause-value : goal.returns-clause-value
returns-clause-value c = c.loop-mark.invariant.value ∙ ap (greatest_of c.args.first) (take_all c.args.marks.now c.loop-mark.mark-index c.loop-mark-test.false)
