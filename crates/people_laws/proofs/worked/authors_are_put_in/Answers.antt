use Rattle.people_laws.proofs.Rows.{authors_bad, authors_done, authors_none}
use Rattle.people_laws.proofs.worked.authors_are_put_in.Goals as goal

pub returns-clause-done : goal.returns-clause-done
returns-clause-done c = authors_done

pub returns-clause-bad : goal.returns-clause-bad
returns-clause-bad c = authors_bad

pub returns-clause-none : goal.returns-clause-none
returns-clause-none c = authors_none
