use Rattle.simplify_laws.proofs.Kept.{result_one_of}
use Rattle.simplify_laws.proofs.laws.selected_commits_are_simpler.Goals as goal

pub returns : goal.returns
returns c = λ set events new h d. result_one_of set events new d h
