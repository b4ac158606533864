use Rattle.split_reorder.proofs.Relinked.{last_is}
use Rattle.split_reorder.proofs.lines.last_of.Goals as goal

pub returns-in-Some : goal.returns-in-Some
returns-in-Some c = last_is c.args.first c.args.rest.now c.in-Some.last.now c.in-Some.ensures.value
