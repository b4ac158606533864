use Rattle.std.proofs.Common.{◌≡◌, ◌≤◌, ◌-◌, [], take, drop, length}
use Rattle.plain_model.specs.Fields.{delimited}
use Rattle.stream_fields.proofs.data.delimited_end.Given as goal

abbrev pub invariant-loop-at : goal.invariant-loop-at
invariant-loop-at l = record {
  within : l.at ≤ length l.text;
  same : delimited l.delimiter (take l.at l.text) [] (drop l.at l.text) ≡ delimited l.delimiter [] [] l.text;
}

abbrev pub decreases-loop-at : goal.decreases-loop-at
decreases-loop-at l = length l.text - l.at
