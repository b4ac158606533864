use Rattle.std.proofs.Common.{◌∙◌, ◌+◌, ◌∷◌, ap, sym, take}
use Rattle.std.proofs.lemmas.List.{take_rest}
use Rattle.mailbox_laws.specs.Boxes.{lines_in}
use Rattle.mailbox_lines.proofs.Cuts.{line_cut, line_whole}
use Rattle.mailbox_lines.proofs.lines.next_line.Goals as goal

pub returns-in-Some-clause-cut : goal.returns-in-Some-clause-cut
returns-in-Some-clause-cut c =
    let bytes = c.args.bytes.now in
    let at = c.in-Some.at in
    line_cut bytes at c.in-Some.ensures ∙ ap (λ rest. take at bytes ∷ lines_in rest) (sym (take_rest bytes (at + 1)))

pub returns-in-None-clause-cut : goal.returns-in-None-clause-cut
returns-in-None-clause-cut c = line_whole c.args.bytes.now (sym c.if-is_empty.ensures) c.in-None.ensures
