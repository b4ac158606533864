-- Why removed commits can't be pushed back.
use Rattle.std.specs.Prelude.{ℕ, ◌≡◌, List, Option, None, Some, take, if◌then◌else◌}
use Rattle.plain_model.specs.declared.id.AnyId.{AnyId}
use Rattle.plain_model.specs.declared.fault.Fault.{Fault}
use Rattle.plain_model.specs.declared.event.PlainEvent.{PlainEvent}
use Rattle.plain_model.specs.declared.event.PlainEvent.TheVariants.{Blob, Commit, Tag, Reset, Pass}
use Rattle.plain_model.specs.Lookups.{commit_id}
use Rattle.squash_laws.specs.Squash.{back_fault, first_children}
use Rattle.squash_laws.specs.Removed.{is_removed}
use Rattle.plan_steps.specs.Tables.{IsTable}

-- why an event can't be: it is a removed commit
abbrev pub own_fault : List AnyId → List PlainEvent → PlainEvent → Option Fault
own_fault set events (Commit id mark branch author committer encoding comment parents ops aliases) =
    if is_removed set id then back_fault set events mark parents else None
own_fault set events (Blob id mark bytes) = None
own_fault set events (Tag id name target tagger comment mark) = None
own_fault set events (Reset id branch target) = None
own_fault set events (Pass id line) = None

-- how many commits have each as their first parent, counted among the first events
abbrev pub AreCountedTo : List PlainEvent → ℕ → List ℕ → Type 0
AreCountedTo events k counts =
    IsTable 0 (λ e count. (c : ℕ) → commit_id e ≡ Some c → count ≡ first_children (take k events) c) events counts
