use Rattle.squash_laws.proofs.Staying.{blobs_there, others_there}
use Rattle.squash_laws.proofs.laws.no_other_event_leaves.Goals as goal

pub returns : goal.returns
returns c = record { others = others_there; blobs = blobs_there }
