use Rattle.expunge_laws.proofs.Whole.{none_matched, others_kept}
use Rattle.expunge_laws.proofs.laws.no_matched_path_is_left.Goals as goal

pub returns : goal.returns
returns c = record {
  none = λ matched events new h. none_matched matched events h new;
  others = λ matched events new h. others_kept matched events h new;
}
