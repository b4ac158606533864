use Rattle.std.proofs.Common.{arith, sym, ◌∙◌}
use Rattle.stream_fields.proofs.DigitLemmas.{over_at}
use Rattle.stream_fields.proofs.numbers.number_up_to.Goals as goal

pub returns-in_err-value-clause-value : goal.returns-in_err-value-clause-value
returns-in_err-value-clause-value c =
    c.from_residual.ensures ∙ sym (over_at c.args.most c.args.text.now c.loop-digit.digit-index c.loop-digit.value (omega arith) (omega arith) (omega arith) c.loop-digit.invariant.same (omega (arith, c.in_err-value.ensures.none)))

pub returns-then-value-most-clause-value : goal.returns-then-value-most-clause-value
returns-then-value-most-clause-value c =
    sym (over_at c.args.most c.args.text.now c.loop-digit.digit-index c.loop-digit.value (omega arith) (omega arith) (omega arith) c.loop-digit.invariant.same (omega (arith, c.in_ok-value.ensures.some)))
