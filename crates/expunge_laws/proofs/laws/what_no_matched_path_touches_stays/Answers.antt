use Rattle.expunge_laws.proofs.Still.{none_by_name, none_emptied, untouched, untouched_stay}
use Rattle.expunge_laws.proofs.laws.what_no_matched_path_touches_stays.Goals as goal

pub returns : goal.returns
returns c = record {
  commits = untouched_stay;
  all = untouched;
  names = λ matched events h n. untouched matched events h (none_by_name matched events events n);
  none = none_emptied;
}
