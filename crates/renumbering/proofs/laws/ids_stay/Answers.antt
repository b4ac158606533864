use Rattle.renumbering.proofs.Kept.{ids_same, length_same}
use Rattle.renumbering.proofs.laws.ids_stay.Goals as goal

pub returns : goal.returns
returns c = record { ids = ids_same 1; count = length_same 1 }
