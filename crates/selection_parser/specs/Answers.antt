-- The answers of the code, as plain ones.
use Rattle.std.specs.Prelude.{ℕ, Result, Ok, Err}
use Rattle.selection_parser.specs.declared.answer.Answer.{Answer}
use Rattle.selection_parser.specs.declared.answer.Answer.TheVariants.{Found, Refused}
use Rattle.selection_parser.specs.Plain.{PlainSelection}
use Rattle.selection_parser.specs.Views.{plain_of}

abbrev pub answer_of : Answer → Result (PlainSelection × ℕ) ℕ
answer_of (Found selection n) = Ok (plain_of selection, n)
answer_of (Refused column) = Err column
