use Rattle.std.proofs.Common.{◌≡◌, ◌≤◌, drop}
use Rattle.plain_model.specs.Parts.{value_from}
use Rattle.stream_fields.proofs.numbers.number_up_to.Given as goal

abbrev pub invariant-loop-digit : goal.invariant-loop-digit
invariant-loop-digit l = record {
  bound : l.value ≤ l.most;
  same : value_from l.value (drop l.digit-index l.text) ≡ value_from 0 l.text;
}
