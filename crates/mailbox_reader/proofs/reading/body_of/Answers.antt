use Rattle.std.proofs.Common.{arith, sym, subst}
use Rattle.mailbox_laws.specs.Boxes.{lines_in}
use Rattle.mailbox_reader.specs.Reading.{Goes}
use Rattle.mailbox_reader.proofs.HeadLines.{goes_on}
use Rattle.mailbox_reader.proofs.reading.body_of.Goals as goal

pub loop-line-preserved : goal.loop-line-preserved
loop-line-preserved c =
    let next = c.loop-line.next in
    let count = c.loop-line.count in
    let whole = lines_in c.args.bytes.now in
    let kept = c.loop-line.invariant in
    let cut = c.in-Some.ensures.cut in
    let less = c.in-Some.ensures.shorter in
    let fits = kept.fits in
    let shorter = kept.shorter in
    let counts = kept.counts in
    record {
      goes = goes_on c.in-Some.line.now (lines_in c.in-Some.after.now) next count whole c.args.first (sym c.if-is_rule.ensures)
          (subst (λ ls. Goes ls next count whole c.args.first) cut kept.goes);
      fits = omega arith;
      shorter = omega arith;
      counts = omega arith;
    }
