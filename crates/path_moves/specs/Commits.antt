-- The operations of a commit under a map of paths, and the trees with which commits begin. (own)
use Rattle.std.specs.Prelude.{◌≡◌, ℕ, ◌<◌, List, Option, Some, None, Ok, slice_get}
use Rattle.plain_model.specs.declared.event.PlainEvent.{PlainEvent}
use Rattle.plain_model.specs.declared.fault.Fault.{Fault}
use Rattle.plain_model.specs.declared.fault.Halt.{Halt}
use Rattle.plain_model.specs.declared.fault.Halt.TheVariants as halt
use Rattle.plain_model.specs.declared.operation.FileOp.{FileOp}
use Rattle.plain_model.specs.Histories.{tree}
use Rattle.plain_model.specs.Lookups.{commit_id}
use Rattle.plain_model.specs.Paths.{Bytes}
use Rattle.plain_model.specs.Trees.{Tree, apply_all}
use Rattle.plan_steps.specs.Tables.{IsTable}
use Rattle.path_move_laws.specs.Apart.{MayMove}
use Rattle.path_move_laws.specs.MovedOps.{first_fault, moved_all}
use Rattle.path_moves.specs.Pairs.{ArePaired}
use Rattle.path_moves.specs.declared.pairs.Pair.{Pair}

-- what is in the place of the operations of a commit that begins with a tree, and the trees after them; no tree has a fault
pub record IsMoved (f : Bytes → Bytes) (mark : ℕ) (ops : List FileOp) (begun : Tree) (made : List FileOp) (new its : Tree) : Type 0 where
  pub whole : made ≡ moved_all f ops begun
  pub applied : apply_all ops begun ≡ Ok new
  pub paired : ArePaired f new its
  pub calm : first_fault f mark 1 ops begun ≡ None

-- a call is refused for this fault, or out of memory
abbrev pub Reports : Option Fault → Halt → Type 0
Reports fault (halt.Refused why) = fault ≡ Some why
Reports fault halt.Memory = Unit {0}

-- what is kept of an event: of a commit its tree, with the image, or nothing
abbrev pub IsKept : (Bytes → Bytes) → List PlainEvent → PlainEvent → Option Pair → Type 0
IsKept f events e None = Unit {0}
IsKept f events e (Some pair) =
    (c : ℕ) → commit_id e ≡ Some c → (tree events c ≡ Some pair.tree) × ArePaired f pair.tree pair.image

-- for the place of each event what is kept of it
abbrev pub AreKept : (Bytes → Bytes) → List PlainEvent → List (Option Pair) → Type 0
AreKept f events kept = IsTable None (IsKept f events) events kept

-- the tree of a commit may be mapped
abbrev pub MayMoveOf : (Bytes → Bytes) → List PlainEvent → ℕ → Type 0
MayMoveOf f events c = (t : Tree) → tree events c ≡ Some t → MayMove f t

-- so may those of the commits before a place
abbrev pub MayMoveTo : (Bytes → Bytes) → List PlainEvent → ℕ → Type 0
MayMoveTo f events k =
    (j : ℕ) (e : PlainEvent) (c : ℕ) → slice_get events j ≡ Some e → j < k → commit_id e ≡ Some c → MayMoveOf f events c
