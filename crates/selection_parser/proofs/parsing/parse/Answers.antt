use Rattle.std.proofs.Common.{◌≡◌, ◌∙◌, sym, ap, subst}
use Rattle.selection_parser.specs.Answers.{answer_of}
use Rattle.selection_parser.specs.Reading.{selection_at}
use Rattle.selection_parser.specs.Spelling.{Refuses}
use Rattle.selection_parser.specs.Views.{plain_of}
use Rattle.selection_parser.proofs.RightAnswers.{found_so, refused_so}
use Rattle.selection_parser.proofs.TextLaws.{selection_texts, cut_there}
use Rattle.selection_parser.proofs.parsing.parse.Goals as goal

pub returns-in-Found-clause-found : goal.returns-in-Found-clause-found
returns-in-Found-clause-found c =
    found_so c.args.text.now c.in-Found.length (plain_of c.in-Found.selection)
    (sym (ap answer_of c.in-Found.is) ∙ c.in_ok-selection.ensures ∙ ap selection_at c.as_bytes.ensures.value)

pub returns-in-Refused-clause-refused : goal.returns-in-Refused-clause-refused
returns-in-Refused-clause-refused c = λ column is.
    let same : c.in-Refused.column ≡ column = cc in
    subst (Refuses c.args.text.now) same
    (refused_so c.args.text.now c.in-Refused.column
    (sym (ap answer_of c.in-Refused.is) ∙ c.in_ok-selection.ensures ∙ ap selection_at c.as_bytes.ensures.value))

pub returns-in-Found-clause-texts : goal.returns-in-Found-clause-texts
returns-in-Found-clause-texts c =
    selection_texts c.args.text.now c.in-Found.length (plain_of c.in-Found.selection) (returns-in-Found-clause-found c).there c.utf8.text

pub returns-in-Found-clause-cut : goal.returns-in-Found-clause-cut
returns-in-Found-clause-cut c =
    cut_there c.args.text.now c.in-Found.length (plain_of c.in-Found.selection) (returns-in-Found-clause-found c).there
