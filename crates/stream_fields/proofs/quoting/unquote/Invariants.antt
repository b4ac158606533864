use Rattle.std.proofs.Common.{◌≡◌, drop}
use Rattle.plain_model.specs.Fields.{unquoted}
use Rattle.plain_model.specs.Fields.Quoting.{Between}
use Rattle.field_laws.proofs.Quoted.{with_front}
use Rattle.stream_fields.specs.Quotes.{quoting_of, IsWithinByte}
use Rattle.stream_fields.proofs.quoting.unquote.Given as goal

abbrev pub invariant-loop-at : goal.invariant-loop-at
invariant-loop-at l = record {
  within : IsWithinByte l.place;
  same : with_front l.bytes (unquoted (quoting_of l.place) (drop l.at l.text)) ≡ unquoted Between l.text;
}
