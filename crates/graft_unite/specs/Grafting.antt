-- What a graft knows of how its part is joined. (own)
use Rattle.std.specs.Prelude.{ℕ, Bool, List}
use Rattle.plain_model.specs.Paths.{Bytes}

-- whether roots begin without files, the name below which all names go, those that are in use, and the commit of the roots
pub record Grafting : Type 0 where
  pub prune : Bool
  pub prefix : Bytes
  pub used : List Bytes
  pub commit : ℕ
