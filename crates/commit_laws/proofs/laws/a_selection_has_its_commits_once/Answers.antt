use Rattle.commit_laws.proofs.Selections.{chosen_distinct, chosen_here, listed_distinct, listed_here}
use Rattle.commit_laws.proofs.laws.a_selection_has_its_commits_once.Goals as goal

pub returns : goal.returns
returns c = record {
  chosen = λ events set s. chosen_here events set s.there;
  chosen_once = λ events set s. chosen_distinct set s.apart;
  listed = listed_here;
  listed_once = listed_distinct;
}
