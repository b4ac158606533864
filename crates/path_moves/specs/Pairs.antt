-- A tree with its image, and what an operation makes of both. (own)
use Rattle.std.specs.Prelude.{◌≡◌, ℕ, List, ◌++◌, Ok, Some, IsTrue}
use Rattle.plain_model.specs.declared.fault.Halt.{Halt}
use Rattle.plain_model.specs.declared.fault.Halt.TheVariants as halt
use Rattle.plain_model.specs.declared.operation.FileOp.{FileOp}
use Rattle.plain_model.specs.declared.operation.FileOp.TheVariants.{Modify, Delete, Copy, Rename, DeleteAll}
use Rattle.plain_model.specs.Paths.{Bytes}
use Rattle.plain_model.specs.Trees.{Tree, apply}
use Rattle.path_move_laws.specs.Apart.{MayMove}
use Rattle.path_move_laws.specs.Images.{image}
use Rattle.path_move_laws.specs.MovedOps.{image_fault, mapped_op, moved_op, names_paths}

-- the second tree is the image of the first, which may be mapped
pub record ArePaired (f : Bytes → Bytes) (tree its : Tree) : Type 0 where
  pub moves : MayMove f tree
  pub image : its ≡ image f tree

-- where an operation leads: to a new pair, and to what is in its place behind the operations made so far
pub record LeadsOn (f : Bytes → Bytes) (op : FileOp) (old : Tree) (made : List FileOp) (new its : Tree) (more : List FileOp) : Type 0 where
  pub applied : apply op old ≡ Ok new
  pub paired : ArePaired f new its
  pub grown : more ≡ made ++ moved_op f op old new

-- it is refused by the fault of the tree after it
abbrev pub IsFaulty : (Bytes → Bytes) → ℕ → ℕ → FileOp → Tree → Halt → Type 0
IsFaulty f mark number op old (halt.Refused why) = (new : Tree) → apply op old ≡ Ok new → image_fault f mark number new ≡ Some why
IsFaulty f mark number op old halt.Memory = Unit {0}

-- the mapped operation says paths, and makes a tree of the image
pub record IsTried (f : Bytes → Bytes) (op : FileOp) (its : Tree) (mapped : FileOp) (made : Tree) : Type 0 where
  pub is : mapped ≡ mapped_op f op
  pub names : IsTrue (names_paths (mapped_op f op))
  pub done : apply (mapped_op f op) its ≡ Ok made

-- the operation is a put or a deletion at the path
abbrev pub IsAt : Bytes → FileOp → Type 0
IsAt p (Modify mode content path) = path ≡ p
IsAt p (Delete path) = path ≡ p
IsAt p (Copy source target) = ⊥
IsAt p (Rename source target) = ⊥
IsAt p DeleteAll = ⊥
