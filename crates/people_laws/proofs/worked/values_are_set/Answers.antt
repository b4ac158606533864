use Rattle.people_laws.proofs.Rows.{branch_set, comment_set, name_set}
use Rattle.people_laws.proofs.worked.values_are_set.Goals as goal

pub returns-clause-comment : goal.returns-clause-comment
returns-clause-comment c = comment_set

pub returns-clause-branch : goal.returns-clause-branch
returns-clause-branch c = branch_set

pub returns-clause-name : goal.returns-clause-name
returns-clause-name c = name_set
