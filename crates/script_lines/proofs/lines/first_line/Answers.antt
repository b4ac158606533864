use Rattle.std.proofs.Common.{◌+◌, sym}
use Rattle.std.proofs.lemmas.List.{take_rest}
use Rattle.script_lines.proofs.LineCuts.{line_cut, line_whole}
use Rattle.script_lines.proofs.lines.first_line.Goals as goal

pub returns-in-Some-clause-cut : goal.returns-in-Some-clause-cut
returns-in-Some-clause-cut c =
    let bytes = c.args.bytes.now in
    rw (take_rest bytes (c.in-Some.at + 1)) (line_cut bytes c.in-Some.at c.in-Some.ensures)

pub returns-in-None-clause-cut : goal.returns-in-None-clause-cut
returns-in-None-clause-cut c = line_whole c.args.bytes.now (sym c.if-is_empty.ensures) c.in-None.ensures
