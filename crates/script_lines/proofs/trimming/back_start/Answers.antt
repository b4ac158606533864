use Rattle.std.proofs.Common.{sym, ◌∙◌, arith}
use Rattle.script_lines.proofs.Trims.{one_less, all_stay, margin_small}
use Rattle.script_lines.proofs.trimming.back_start.Goals as goal

pub loop-end-preserved : goal.loop-end-preserved
loop-end-preserved c =
    let known = c.loop-end.invariant in
    record {
      within = omega arith;
      same = one_less c.args.bytes.now c.loop-end.end c.loop-end-test.true known.within (sym c.if-is_margin.ensures) ∙ known.same;
      ascii = λ _. margin_small _ (sym c.if-is_margin.ensures);
    }

pub returns-else-is_margin-clause-back : goal.returns-else-is_margin-clause-back
returns-else-is_margin-clause-back c =
    let known = c.loop-end.invariant in
    sym (all_stay c.args.bytes.now c.loop-end.end c.loop-end-test.true known.within (sym c.if-is_margin.ensures)) ∙ known.same
