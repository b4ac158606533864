-- The tree check: the first operation that a tree refuses, in the order of the commits and of their operations. (own)
use Rattle.std.specs.Option.{option_or}
use Rattle.std.specs.Prelude.{ℕ, ◌+◌, List, [], ◌∷◌, Option, Some, None, Result, Ok, Err, option_and_then, option_map}
use Rattle.plain_model.specs.Histories.{begun, tree}
use Rattle.plain_model.specs.Trees.{Refusal, Tree, apply}
use Rattle.plain_model.specs.Trees.Refusal.{MissingSource, PathBytes, Paths}
use Rattle.plain_model.specs.declared.event.PlainEvent.{PlainEvent}
use Rattle.plain_model.specs.declared.event.PlainEvent.TheVariants.{Blob, Commit, Pass, Reset, Tag}
use Rattle.plain_model.specs.declared.fault.Fault.{Fault}
use Rattle.plain_model.specs.declared.fault.Fault.TheVariants as fault
use Rattle.plain_model.specs.declared.fault.Which.TheVariants as which
use Rattle.plain_model.specs.declared.limit.TheConstants.{MAX_PATHS, MAX_PATH_BYTES}
use Rattle.plain_model.specs.declared.operation.FileOp.{FileOp}

-- what is refused later, unless this operation, of the number n, is refused
abbrev pub unless_refused : ℕ → (Tree → Option (ℕ × Refusal)) → Result Tree Refusal → Option (ℕ × Refusal)
unless_refused n later (Ok t) = later t
unless_refused n later (Err why) = Some (n, why)

-- the first of the operations that is refused, by its number, and why; they are numbered from n on
abbrev pub first_refused : ℕ → List FileOp → Tree → Option (ℕ × Refusal)
first_refused n [] t = None
first_refused n (op ∷ ops) t = unless_refused n (first_refused (n + 1) ops) (apply op t)

-- the fault that tells of it
abbrev pub fault_of : ℕ → ℕ × Refusal → Fault
fault_of mark (n, MissingSource) = fault.MissingSource mark n
fault_of mark (n, PathBytes) = fault.Limit which.PathBytes MAX_PATH_BYTES
fault_of mark (n, Paths) = fault.Limit which.Paths MAX_PATHS

-- the fault of an event among others, if it is a commit that begins with a tree
abbrev pub event_fault : List PlainEvent → PlainEvent → Option Fault
event_fault events (Commit id mark branch author committer encoding comment parents ops aliases) =
    option_and_then (λ t. option_map (fault_of mark) (first_refused 1 ops t)) (begun (tree events) parents)
event_fault events (Blob id mark bytes) = None
event_fault events (Tag id name target tagger comment mark) = None
event_fault events (Reset id branch target) = None
event_fault events (Pass id line) = None

-- the first fault of some of the events
abbrev pub first_fault : List PlainEvent → List PlainEvent → Option Fault
first_fault events [] = None
first_fault events (e ∷ some) = option_or (event_fault events e) (first_fault events some)

abbrev pub unless : Option Fault → Result (Unit {0}) Fault
unless None = Ok tt
unless (Some f) = Err f

abbrev pub tree_check : List PlainEvent → Result (Unit {0}) Fault
tree_check events = unless (first_fault events events)
