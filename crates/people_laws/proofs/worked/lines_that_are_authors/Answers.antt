use Rattle.people_laws.proofs.Rows.{lines_right}
use Rattle.people_laws.proofs.worked.lines_that_are_authors.Goals as goal

pub returns : goal.returns
returns c = lines_right
