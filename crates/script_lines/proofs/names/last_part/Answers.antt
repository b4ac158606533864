use Rattle.std.proofs.Common.{◌+◌, sym}
use Rattle.std.proofs.lemmas.List.{take_rest}
use Rattle.script_lines.proofs.LastParts.{part_after, part_whole}
use Rattle.script_lines.proofs.names.last_part.Goals as goal

pub returns-in-Some : goal.returns-in-Some
returns-in-Some c = rw (take_rest c.args.file.now (c.in-Some.at + 1)) (sym (part_after c.args.file.now c.in-Some.at c.in-Some.ensures))

pub returns-in-None : goal.returns-in-None
returns-in-None c = sym (part_whole c.args.file.now c.in-None.ensures)
