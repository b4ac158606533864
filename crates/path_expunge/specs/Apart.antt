-- What is known of the paths that operations name: which of them are matched, and that none of these conflicts with
-- another one.
use Rattle.std.specs.Prelude.{◌≡◌, Bool, false, ◌||◌, List, bytes_eq, IsTrue, IsFalse}
use Rattle.std.specs.List.{list_any}
use Rattle.plain_model.specs.declared.operation.FileOp.{FileOp}
use Rattle.plain_model.specs.declared.operation.FileOp.TheVariants.{Modify, Delete, Copy, Rename, DeleteAll}
use Rattle.plain_model.specs.Paths.{Bytes, do_conflict, is_below}
use Rattle.path_expunge.specs.declared.sides.Side.{Side}
use Rattle.path_expunge.specs.declared.naming.Named.{Named}

-- a set of texts has this one
abbrev pub is_in : Bytes → List Bytes → Bool
is_in text set = list_any (bytes_eq text) set

-- the folders of all its paths are known
abbrev pub IsWhole : Side → Type 0
IsWhole side = (path folder : Bytes) → IsTrue (is_in path side.paths) → IsTrue (is_below folder path) → IsTrue (is_in folder side.folders)

-- the one side has paths that are matched, the other one paths that aren't, and no two conflict
pub record AreSides (matched : Bytes → Bool) (named : Named) : Type 0 where
  pub taken_whole : IsWhole named.taken
  pub left_whole : IsWhole named.left
  pub taken : (path : Bytes) → IsTrue (is_in path named.taken.paths) → IsTrue (matched path)
  pub left : (path : Bytes) → IsTrue (is_in path named.left.paths) → IsFalse (matched path)
  pub apart : (path other : Bytes) → IsTrue (is_in path named.taken.paths) → IsTrue (is_in other named.left.paths) → do_conflict path other ≡ false

-- a path is on one side
abbrev pub is_named : Named → Bytes → Bool
is_named named path = is_in path named.taken.paths || is_in path named.left.paths

-- the paths of an operation are, and it is no copy and no rename
abbrev pub IsNoted : Named → FileOp → Type 0
IsNoted named (Modify mode content path) = IsTrue (is_named named path)
IsNoted named (Delete path) = IsTrue (is_named named path)
IsNoted named (Copy source target) = ⊥
IsNoted named (Rename source target) = ⊥
IsNoted named DeleteAll = Unit {0}

-- the operation names a path that is taken out
abbrev pub takes : Named → FileOp → Bool
takes named (Modify mode content path) = is_in path named.taken.paths
takes named (Delete path) = is_in path named.taken.paths
takes named (Copy source target) = false
takes named (Rename source target) = false
takes named DeleteAll = false

-- what is noted stays so
abbrev pub GoesOn : Named → Named → Type 0
GoesOn old new = (path : Bytes) → IsTrue (is_named old path) → IsTrue (is_named new path)
