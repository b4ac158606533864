use Rattle.squash_laws.proofs.Parents.{deleted_on, parents_stood_for}
use Rattle.squash_laws.proofs.laws.parents_give_way_to_their_parents.Goals as goal

pub returns : goal.returns
returns c = record { parents = parents_stood_for; deletion = deleted_on }
