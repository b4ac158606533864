use Rattle.soundness_laws.proofs.Positions.{own_place}
use Rattle.soundness_laws.proofs.laws.ids_are_places.Goals as goal

pub returns : goal.returns
returns c = own_place
