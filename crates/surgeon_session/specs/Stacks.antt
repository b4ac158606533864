-- Lists that are stacked, the last one uppermost. (own)
use Rattle.std.specs.Prelude.{List, [], ◌∷◌, ◌++◌}

-- what lists have, the last one first
abbrev pub from_last : {A : Type 0} → List (List A) → List A
from_last [] = []
from_last (list ∷ lists) = from_last lists ++ list
