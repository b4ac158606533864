use Rattle.soundness_laws.proofs.Counted.{read_is_within}
use Rattle.soundness_laws.proofs.laws.what_is_read_passes_no_limit.Goals as goal

pub returns : goal.returns
returns c = read_is_within
