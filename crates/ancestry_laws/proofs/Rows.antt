-- The example, computed.
use Rattle.std.proofs.Common.{◌≡◌, [], ◌∷◌, refl, false}
use Rattle.ancestry_laws.specs.Ancestry.{ancestors_of, descendants_of, descends}
use Rattle.ancestry_laws.specs.Examples.{ids, merges}

pub descendants_of_2 : descendants_of merges (2 ∷ []) ≡ ids (2 ∷ 4 ∷ 5 ∷ 6 ∷ 7 ∷ [])
descendants_of_2 = refl

pub ancestors_of_4 : ancestors_of merges (4 ∷ []) ≡ ids (1 ∷ 2 ∷ 3 ∷ 4 ∷ [])
ancestors_of_4 = refl

pub beside_2 : descends merges (2 ∷ []) 3 ≡ false
beside_2 = refl
