use Rattle.simplify_laws.proofs.Kept.{none_selected, result_again}
use Rattle.simplify_laws.proofs.laws.simplifying_again_changes_nothing.Goals as goal

pub returns : goal.returns
returns c = record { again = result_again; none = none_selected }
