use Rattle.simplify_laws.proofs.Kept.{result_adds, result_below}
use Rattle.simplify_laws.proofs.laws.nothing_is_added.Goals as goal

pub returns : goal.returns
returns c = record { added = result_adds; below = λ set events new next d. result_below set events new d next }
