-- What becomes of a whole tree under a map of paths. (own)
use Rattle.std.specs.Prelude.{◌≡◌, IsTrue}
use Rattle.plain_model.specs.Paths.{Bytes}
use Rattle.plain_model.specs.Trees.{Tree}
use Rattle.path_move_laws.specs.Apart.{AreApart, MayMove}
use Rattle.path_move_laws.specs.Images.{has_long_image, image}
use Rattle.path_moves.specs.declared.wholes.Whole.{Whole}
use Rattle.path_moves.specs.declared.wholes.Whole.TheVariants.{Collides, Image, TooLong}

-- it has this image, or one that is too long, or else some that are in each other's way
abbrev pub IsWhole : (Bytes → Bytes) → Tree → Whole → Type 0
IsWhole f tree (Image its) = MayMove f tree × (its ≡ image f tree)
IsWhole f tree TooLong = IsTrue (has_long_image f tree)
IsWhole f tree Collides = AreApart f tree → ⊥
