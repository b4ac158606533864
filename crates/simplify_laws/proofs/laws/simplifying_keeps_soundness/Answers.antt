use Rattle.simplify_laws.proofs.Kept.{result_sound}
use Rattle.simplify_laws.proofs.laws.simplifying_keeps_soundness.Goals as goal

pub returns : goal.returns
returns c = λ set events new h d. result_sound set events new d h
