use Rattle.tagify_laws.proofs.Still.{nothing_changes}
use Rattle.tagify_laws.proofs.laws.nothing_changes_where_no_commit_becomes_a_tag.Goals as goal

pub returns : goal.returns
returns c = λ next selected events h none. nothing_changes selected events h none next
