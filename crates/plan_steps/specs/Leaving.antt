-- What a squash leaves, part by part: which events go, and what becomes of one that stays.
use Rattle.std.specs.Prelude.{ℕ, Bool, false, not, ◌||◌, List, [], ◌∷◌, filter, Some, None, is_some, unwrap_or}
use Rattle.plain_model.specs.declared.id.AnyId.{AnyId}
use Rattle.plain_model.specs.declared.id.AnyId.TheVariants as any
use Rattle.plain_model.specs.declared.event.PlainEvent.{PlainEvent}
use Rattle.plain_model.specs.declared.event.PlainEvent.TheVariants.{Blob, Commit, Tag, Reset, Pass}
use Rattle.plain_model.specs.Lookups.{is_listed}
use Rattle.event_arena.specs.Changes.{changed, with_parents}
use Rattle.squash_laws.specs.Removed.{Takings, is_removed}

-- a removed commit goes, a tag or a reset that is in the set or that no commit is left for, and a passed line of the set
abbrev pub goes : List AnyId → Takings → PlainEvent → Bool
goes set takes (Blob id mark bytes) = false
goes set takes (Commit id mark branch author committer encoding comment parents ops aliases) = is_removed set id
goes set takes (Tag id name target tagger comment mark) = is_listed (any.Tag id) set || not (is_some (takes.target target))
goes set takes (Reset id branch (Some target)) = is_listed (any.Reset id) set || not (is_some (takes.target target))
goes set takes (Reset id branch None) = is_listed (any.Reset id) set
goes set takes (Pass id line) = is_listed (any.Pass id) set

-- the others, as they were
abbrev pub staying : List AnyId → Takings → List PlainEvent → List PlainEvent
staying set takes events = filter (λ e. not (goes set takes e)) events

-- one of them with the parents that it gets
abbrev pub with_own_parents : (List ℕ → List ℕ) → PlainEvent → PlainEvent
with_own_parents parents_of (Commit id mark branch author committer encoding comment parents ops aliases) =
    Commit id mark branch author committer encoding comment (parents_of parents) ops aliases
with_own_parents parents_of (Blob id mark bytes) = Blob id mark bytes
with_own_parents parents_of (Tag id name target tagger comment mark) = Tag id name target tagger comment mark
with_own_parents parents_of (Reset id branch target) = Reset id branch target
with_own_parents parents_of (Pass id line) = Pass id line

-- with the operations and the comment that it takes besides
abbrev pub with_takings : (List ℕ → List ℕ) → Takings → PlainEvent → PlainEvent
with_takings parents_of takes (Commit id mark branch author committer encoding comment parents ops aliases) =
    Commit id mark branch author committer encoding (takes.comment id parents comment) (parents_of parents) (takes.ops id parents ops) aliases
with_takings parents_of takes (Blob id mark bytes) = Blob id mark bytes
with_takings parents_of takes (Tag id name target tagger comment mark) = Tag id name target tagger comment mark
with_takings parents_of takes (Reset id branch target) = Reset id branch target
with_takings parents_of takes (Pass id line) = Pass id line

-- and of the commit to which it goes: all that becomes of it
abbrev pub event_after : (List ℕ → List ℕ) → Takings → PlainEvent → PlainEvent
event_after parents_of takes (Commit id mark branch author committer encoding comment parents ops aliases) =
    Commit id mark branch author committer encoding (takes.comment id parents comment) (parents_of parents) (takes.ops id parents ops) aliases
event_after parents_of takes (Blob id mark bytes) = Blob id mark bytes
event_after parents_of takes (Tag id name target tagger comment mark) =
    Tag id name (unwrap_or (takes.target target) target) tagger comment mark
event_after parents_of takes (Reset id branch (Some target)) = Reset id branch (Some (unwrap_or (takes.target target) target))
event_after parents_of takes (Reset id branch None) = Reset id branch None
event_after parents_of takes (Pass id line) = Pass id line

-- commits get parents, one after another
abbrev pub with_all_parents : List (ℕ × List ℕ) → List PlainEvent → List PlainEvent
with_all_parents [] events = events
with_all_parents (change ∷ changes) events = with_all_parents changes (changed (any.Commit change.0) (with_parents change.1) events)
