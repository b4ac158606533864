use Rattle.std.proofs.Common.{ap, is_ok}
use Rattle.squash_laws.proofs.Squashed.{squash_ends}
use Rattle.squash_laws.proofs.laws.a_squash_comes_to_its_end.Goals as goal

pub returns : goal.returns
returns c = λ how set events h. let ends = squash_ends set events h how in ap is_ok ends.1
