use Rattle.std.proofs.Common.{◌<◌, ◌≤◌, arith, length}
use Rattle.selection_parser.proofs.Powers.{few_digits}
use Rattle.selection_eval.proofs.days.value_of.Goals as goal

pub overflow_mul-value : goal.overflow_mul-value
overflow_mul-value c =
    let few : length c.args.digits.now ≤ 19 = c.requires.few in
    let within : c.loop-digit.digit-index < length c.args.digits.now = c.loop-digit-test.true in
    let count : c.loop-digit.digit-index < 19 = omega arith in
    omega (arith, few_digits c.loop-digit.value c.loop-digit.digit-index c.loop-digit.invariant.bound count)

pub overflow_add-value : goal.overflow_add-value
overflow_add-value c =
    let few : length c.args.digits.now ≤ 19 = c.requires.few in
    let within : c.loop-digit.digit-index < length c.args.digits.now = c.loop-digit-test.true in
    let count : c.loop-digit.digit-index < 19 = omega arith in
    omega (
      arith,
      few_digits c.loop-digit.value c.loop-digit.digit-index c.loop-digit.invariant.bound count,
      c.type_inv.digits c.loop-digit.digit-index,
      c.from.ensures,
    )
