use Rattle.std.proofs.Common.{sym}
use Rattle.stream_fields.proofs.BlockSteps.{line_ended, line_unended}
use Rattle.stream_fields.proofs.data.sizes_of_line.Goals as goal

pub returns-in-Some : goal.returns-in-Some
returns-in-Some c = line_ended c.args.text.now c.in-Some.at c.in-Some.ensures.within (sym c.in-Some.ensures.value)

pub returns-in-None : goal.returns-in-None
returns-in-None c = line_unended c.args.text.now (sym c.in-None.ensures.value)
