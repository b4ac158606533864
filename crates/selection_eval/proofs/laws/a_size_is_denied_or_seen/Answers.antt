use Rattle.selection_eval.proofs.BigLaws.{big_or_sized}
use Rattle.selection_eval.proofs.laws.a_size_is_denied_or_seen.Goals as goal

pub returns : goal.returns
returns c = big_or_sized
