use Rattle.kept_steps.proofs.Sources.{comes_not, source_same}
use Rattle.kept_steps.proofs.laws.what_is_there_is_itself.Goals as goal

pub returns : goal.returns
returns c s how name repo id lawful here there = (comes_not s how name repo here, source_same s lawful how name repo here id there)
