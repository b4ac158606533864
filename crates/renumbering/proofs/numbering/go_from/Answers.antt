use Rattle.std.proofs.Common.{◌≡◌, ◌∙◌, ◌+◌, sym, arith}
use Rattle.renumbering.proofs.Marks.{same_more}
use Rattle.renumbering.proofs.numbering.go_from.Goals as goal

pub loop-mark-preserved : goal.loop-mark-preserved
loop-mark-preserved c =
    let v = c.loop-mark.invariant in
    let is : c.mark-item.result ≡ c.args.first + c.loop-mark.mark-index = sym c.number.ensures.value ∙ c.if-number-next.false ∙ v.next in
    record {
      next = let so_far = v.next in omega arith;
      same = same_more c.args.first c.args.marks.now c.loop-mark.mark-index c.mark-item.result c.loop-mark-test.true c.mark-item.is is v.same;
    }
