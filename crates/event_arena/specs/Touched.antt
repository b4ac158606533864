-- Which events a plan has touched, as far as the indices of a history care. (own)
use Rattle.std.specs.Prelude.{◌≡◌, ◌++◌, ℕ, true, List, Option, Some, None, map}
use Rattle.plain_model.specs.declared.id.AnyId.{AnyId}
use Rattle.plain_model.specs.declared.event.PlainEvent.{PlainEvent}
use Rattle.plain_model.specs.Lookups.{event_marks, event_parents, find_event, id_of, is_listed}
use Rattle.event_arena.specs.Changes.{without_all}

-- what indices are made from: of each event its id, its parents and its marks
abbrev pub indexed_of : PlainEvent → AnyId × List ℕ × List ℕ
indexed_of e = (id_of e, event_parents e, event_marks e)

-- Without the touched events both lists have the same ids, parents and marks, in the same order. Where there were too many
-- to tell, or the order changed, nothing is said.
abbrev pub DifferAtMost : Option (List AnyId) → List PlainEvent → List PlainEvent → Type 0
DifferAtMost None before after = Unit {0}
DifferAtMost (Some ids) before after = map indexed_of (without_all ids before) ≡ map indexed_of (without_all ids after)

-- the ids so far and some more, unless there are too many to tell
abbrev pub HasMore : List AnyId → Option (List AnyId) → Option (List AnyId) → Type 0
HasMore more old None = Unit {0}
HasMore more None (Some new) = ⊥
HasMore more (Some old) (Some new) = new ≡ old ++ more

-- the event with the id, if it is there after, was there before, with the same marks
abbrev pub IsMarkedAsBefore : AnyId → List PlainEvent → List PlainEvent → Type 0
IsMarkedAsBefore id before after = (new : PlainEvent) → find_event id after ≡ Some new →
    (old : PlainEvent) × (find_event id before ≡ Some old) × (event_marks new ≡ event_marks old)

-- so is each of these events
abbrev pub KeepMarks : List AnyId → List PlainEvent → List PlainEvent → Type 0
KeepMarks ids before after = (id : AnyId) → is_listed id ids ≡ true → IsMarkedAsBefore id before after

-- so is each event
abbrev pub AreMarksKept : List PlainEvent → List PlainEvent → Type 0
AreMarksKept before after = (id : AnyId) → IsMarkedAsBefore id before after
