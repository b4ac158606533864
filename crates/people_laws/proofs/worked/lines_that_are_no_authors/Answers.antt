use Rattle.people_laws.proofs.Rows.{bad_lines}
use Rattle.people_laws.proofs.worked.lines_that_are_no_authors.Goals as goal

pub returns : goal.returns
returns c = bad_lines
