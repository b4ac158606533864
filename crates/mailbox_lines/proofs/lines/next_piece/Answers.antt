use Rattle.std.proofs.Common.{◌∙◌, ◌+◌, ◌∷◌, ap, sym, take}
use Rattle.std.proofs.lemmas.List.{take_rest}
use Rattle.plain_model.specs.Text.{line}
use Rattle.mailbox_laws.specs.Boxes.{lines_in}
use Rattle.mailbox_lines.proofs.Cuts.{piece_cut, piece_whole}
use Rattle.mailbox_lines.proofs.lines.next_piece.Goals as goal

pub returns-in-Some-clause-cut : goal.returns-in-Some-clause-cut
returns-in-Some-clause-cut c =
    let text = c.args.text.now in
    let at = c.in-Some.at in
    piece_cut text at c.in-Some.ensures ∙ ap (λ rest. take at text ∷ lines_in (line rest)) (sym (take_rest text (at + 1)))

pub returns-in-None-clause-cut : goal.returns-in-None-clause-cut
returns-in-None-clause-cut c = piece_whole c.args.text.now c.in-None.ensures
