use Rattle.std.proofs.Common.{◌∙◌, ◌+◌, Some, ap, arith, codes, sym, take, zero-le}
use Rattle.std.proofs.lemmas.List.{take_rest}
use Rattle.people_edit.proofs.Cuts.{cut_nowhere, cut_there}
use Rattle.people_edit.proofs.lines.cut_by_equals.Goals as goal

pub returns-in-Some : goal.returns-in-Some
returns-in-Some c =
    let line = c.args.line.now in
    let at = c.in-Some.at in
    sym (cut_there (codes " = ") (omega arith) line at c.in-Some.ensures.1 (λ k low. c.in-Some.ensures.0.before k zero-le low)
    ∙ ap (λ rest. Some (take at line, rest)) (sym (take_rest line (at + 3))))

pub returns-in-None : goal.returns-in-None
returns-in-None c = sym (cut_nowhere (codes " = ") (omega arith) c.args.line.now (λ k low. c.in-None.ensures k zero-le low))
