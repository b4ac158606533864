-- A history whose paths are moved by a map. (reposurgeon manual, `path` and `paths`; which operations stand in the
-- place of others, and the faults: own.)
use Rattle.std.specs.Prelude.{ℕ, List, [], ◌∷◌, map, Option, Some, None, Result, Ok, Err, unwrap_or}
use Rattle.plain_model.specs.declared.fault.Fault.{Fault}
use Rattle.plain_model.specs.declared.operation.FileOp.{FileOp}
use Rattle.plain_model.specs.declared.event.PlainEvent.{PlainEvent}
use Rattle.plain_model.specs.declared.event.PlainEvent.TheVariants.{Blob, Commit, Tag, Reset, Pass}
use Rattle.plain_model.specs.Histories.{begun, tree}
use Rattle.plain_model.specs.Paths.{Bytes}
use Rattle.edit_laws.specs.Passing.{limit_fault}
use Rattle.path_move_laws.specs.MovedOps.{first_fault, moved_all}

-- a commit with other operations, made of its parents and of those that it has
abbrev pub with_ops_for : (List ℕ → List FileOp → List FileOp) → PlainEvent → PlainEvent
with_ops_for ops_for (Commit id mark branch author committer encoding comment parents ops aliases) =
    Commit id mark branch author committer encoding comment parents (ops_for parents ops) aliases
with_ops_for ops_for (Blob id mark bytes) = Blob id mark bytes
with_ops_for ops_for (Tag id name target tagger comment mark) = Tag id name target tagger comment mark
with_ops_for ops_for (Reset id branch target) = Reset id branch target
with_ops_for ops_for (Pass id line) = Pass id line

-- what is left where the fault isn't there
abbrev pub unless_fault : Option Fault → Result (List PlainEvent) Fault → Result (List PlainEvent) Fault
unless_fault (Some why) answer = Err why
unless_fault None answer = answer

module _ (f : Bytes → Bytes) (events : List PlainEvent) where
  -- the operations of a commit with these parents, mapped; its trees are those of the old history
  abbrev pub moved_ops : List ℕ → List FileOp → List FileOp
  moved_ops parents ops = moved_all f ops (unwrap_or (begun (tree events) parents) [])

  abbrev pub moved_event : PlainEvent → PlainEvent
  moved_event e = with_ops_for moved_ops e

  -- each commit with its mapped operations; all else as it was
  abbrev pub moved_events : List PlainEvent
  moved_events = map moved_event events

  -- why a tree of the event has no image
  abbrev pub event_fault : PlainEvent → Option Fault
  event_fault (Commit id mark branch author committer encoding comment parents ops aliases) =
      first_fault f mark 1 ops (unwrap_or (begun (tree events) parents) [])
  event_fault (Blob id mark bytes) = None
  event_fault (Tag id name target tagger comment mark) = None
  event_fault (Reset id branch target) = None
  event_fault (Pass id line) = None

  -- the fault of the first of these events that has one
  abbrev pub first_of : List PlainEvent → Option Fault
  first_of [] = None
  first_of (e ∷ es) = elim (event_fault e) [ Some why ↦ Some why | None ↦ first_of es ]

  -- the history with its paths moved, or the first fault of a tree, or the limit that it passes
  abbrev pub paths_moved : Result (List PlainEvent) Fault
  paths_moved = unless_fault (first_of events) (unless_fault (limit_fault moved_events) (Ok moved_events))
