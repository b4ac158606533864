use Rattle.listing.proofs.Lines.{first_cut, first_whole}
use Rattle.listing.proofs.fields.first_line.Goals as goal

pub returns-in-Some : goal.returns-in-Some
returns-in-Some c = first_cut c.args.comment.now c.in-Some.end c.in-Some.ensures

pub returns-in-None : goal.returns-in-None
returns-in-None c = first_whole c.args.comment.now c.in-None.ensures
