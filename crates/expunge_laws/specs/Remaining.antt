-- What an expunge leaves as it was, and which commits leave.
use Rattle.std.specs.Prelude.{◌≡◌, Bool, not, List}
use Rattle.plain_model.specs.declared.id.AnyId.TheVariants as any
use Rattle.plain_model.specs.declared.event.PlainEvent.{PlainEvent}
use Rattle.plain_model.specs.declared.event.PlainEvent.TheVariants.{Blob, Commit, Tag, Reset, Pass}
use Rattle.plain_model.specs.Soundness.{has_id}

-- a commit leaves exactly where it passes the test
abbrev pub LeavesWhere : (PlainEvent → Bool) → List PlainEvent → PlainEvent → Type 0
LeavesWhere test new (Commit id mark branch author committer encoding comment parents ops aliases) =
    has_id new (any.Commit id)
    ≡ not (test (Commit id mark branch author committer encoding comment parents ops aliases))
LeavesWhere test new (Blob id mark bytes) = Unit {0}
LeavesWhere test new (Tag id name target tagger comment mark) = Unit {0}
LeavesWhere test new (Reset id branch target) = Unit {0}
LeavesWhere test new (Pass id line) = Unit {0}
