-- Where no path is a folder of a matched one, or in a folder of that name, what names a matched path takes nothing else
-- away, and just goes. This is known by the names in a history, without its trees. (own)
use Rattle.std.specs.Prelude.{◌≡◌, Bool, false, not, List, filter, IsTrue, IsFalse}
use Rattle.std.specs.List.{AllByRecursion}
use Rattle.plain_model.specs.declared.operation.FileOp.{FileOp}
use Rattle.plain_model.specs.declared.operation.FileOp.TheVariants.{Modify, Delete, Copy, Rename, DeleteAll}
use Rattle.plain_model.specs.declared.event.PlainEvent.{PlainEvent}
use Rattle.plain_model.specs.declared.event.PlainEvent.TheVariants.{Blob, Commit, Tag, Reset, Pass}
use Rattle.plain_model.specs.Histories.{nodes}
use Rattle.plain_model.specs.Paths.{Bytes, do_conflict}

-- the operations of each commit
abbrev pub AllOps : (FileOp → Type 0) → List PlainEvent → Type 0
AllOps P events = AllByRecursion (λ n. AllByRecursion P n.ops) (nodes events)

-- a commit without the operations that pass a test
abbrev pub event_without : (FileOp → Bool) → PlainEvent → PlainEvent
event_without test (Commit id mark branch author committer encoding comment parents ops aliases) =
    Commit id mark branch author committer encoding comment parents (filter (λ op. not (test op)) ops) aliases
event_without test (Blob id mark bytes) = Blob id mark bytes
event_without test (Tag id name target tagger comment mark) = Tag id name target tagger comment mark
event_without test (Reset id branch target) = Reset id branch target
event_without test (Pass id line) = Pass id line

module _ (matched : Bytes → Bool) where
  -- the operation puts no path that stays and conflicts with this one; a copy or a rename may put any
  abbrev pub KeepsClear : Bytes → FileOp → Type 0
  KeepsClear path (Modify mode content other) = IsFalse (matched other) → do_conflict path other ≡ false
  KeepsClear path (Delete other) = Unit {0}
  KeepsClear path (Copy source target) = ⊥
  KeepsClear path (Rename source target) = ⊥
  KeepsClear path DeleteAll = Unit {0}

  -- where the operation names a matched path, no operation of the history puts one that stays and conflicts with it
  abbrev pub IsApart : List PlainEvent → FileOp → Type 0
  IsApart events (Modify mode content path) = IsTrue (matched path) → AllOps (KeepsClear path) events
  IsApart events (Delete path) = IsTrue (matched path) → AllOps (KeepsClear path) events
  IsApart events (Copy source target) = ⊥
  IsApart events (Rename source target) = ⊥
  IsApart events DeleteAll = Unit {0}
