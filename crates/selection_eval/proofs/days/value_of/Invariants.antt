use Rattle.std.proofs.Common.{◌≡◌, ◌<◌, ◌^◌, drop}
use Rattle.plain_model.specs.Numbers.{value_after}
use Rattle.selection_eval.proofs.days.value_of.Given as goal

abbrev pub invariant-loop-digit : goal.invariant-loop-digit
invariant-loop-digit l = record {
  value : value_after l.value (drop l.digit-index l.digits) ≡ value_after 0 l.digits;
  bound : l.value < 10 ^ l.digit-index;
}
