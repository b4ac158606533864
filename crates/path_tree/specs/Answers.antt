-- What a call that changes a tree answers.
use Rattle.std.specs.Prelude.{Bool, if◌then◌else◌, ◌≡◌, ◌⊎◌, Result, Ok, OnOk, OnErr, IfErr, IsErrAnd}
use Rattle.plain_model.specs.declared.fault.Which.TheVariants as which
use Rattle.plain_model.specs.declared.limit.TheConstants.{MAX_PATH_BYTES, MAX_PATHS}
use Rattle.plain_model.specs.declared.operation.Entry.{Entry}
use Rattle.plain_model.specs.Paths.{Bytes}
use Rattle.plain_model.specs.Trees.{Tree, Refusal, Change}
use Rattle.plain_model.specs.Trees.Change.{CopyTo, MoveTo}
use Rattle.plain_model.specs.Trees.Refusal.{MissingSource, PathBytes, Paths}
use Rattle.path_tree.specs.declared.fault.ApplyFault.{ApplyFault}
use Rattle.path_tree.specs.declared.fault.ApplyFault.TheVariants as fault

-- the fault that tells of a refusal
abbrev pub fault_of : Refusal → ApplyFault
fault_of MissingSource = fault.MissingSource
fault_of PathBytes = fault.Limit which.PathBytes MAX_PATH_BYTES
fault_of Paths = fault.Limit which.Paths MAX_PATHS

-- the fault tells of out of memory, or of what is refused
abbrev pub TellsOf : Result Tree Refusal → ApplyFault → Type 0
TellsOf expected f = (f ≡ fault.Memory) ⊎ IsErrAnd expected (λ refusal. f ≡ fault_of refusal)

abbrev pub Answer : Type 0
Answer = Result (Unit {0}) ApplyFault

-- the answer of a call that makes the new tree of the old one, where this is expected
pub record IsAnswer (expected : Result Tree Refusal) (old : Tree) (answer : Answer) (new : Tree) : Type 0 where
  pub done : OnOk answer (expected ≡ Ok new)
  pub refused : IfErr answer (TellsOf expected)
  pub unchanged : OnErr answer (new ≡ old)

-- a copy, where the source stays, or else a move
abbrev pub moves : Bool → Bytes → Bytes → Change Entry
moves keep source target = if keep then CopyTo source target else MoveTo source target
