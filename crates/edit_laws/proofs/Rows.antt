-- The examples, computed.
use Rattle.std.proofs.Common.{◌≡◌, [], ◌∷◌, refl, Ok, Err, Some}
use Rattle.plain_model.specs.Histories.{past}
use Rattle.ancestry_laws.specs.Ancestry.{is_one_of}
use Rattle.ancestry_laws.specs.Examples.{merges}
use Rattle.edit_laws.specs.Examples.{circle, named, never_taken, turned, turned_back, unnamed, unnamed_swept}
use Rattle.edit_laws.specs.Removal.{expand_all}
use Rattle.edit_laws.specs.Settling.{first_commit_mark, settle}
use Rattle.edit_laws.specs.Sweeping.{swept}

pub turned_done : settle turned ≡ Ok turned_back
turned_done = refl

pub circle_left : settle circle ≡ Err never_taken
circle_left = refl

pub circle_mark : first_commit_mark never_taken ≡ Some 1
circle_mark = refl

pub merges_expanded : expand_all (is_one_of (4 ∷ 5 ∷ 6 ∷ [])) (past merges) (6 ∷ []) ≡ 2 ∷ 3 ∷ []
merges_expanded = refl

pub blob_swept : swept named unnamed ≡ unnamed_swept
blob_swept = refl
