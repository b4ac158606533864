use Rattle.std.proofs.Common.{sym, ◌∙◌}
use Rattle.stream_fields.proofs.DigitLemmas.{is_some_number_of, some_bytes}
use Rattle.stream_fields.proofs.numbers.is_number.Goals as goal

pub returns-then-not-is_empty : goal.returns-then-not-is_empty
returns-then-not-is_empty c = c.are_digits.ensures ∙ sym (is_some_number_of c.args.text.now (some_bytes c.args.text.now (sym c.if-not-is_empty.ensures)))
