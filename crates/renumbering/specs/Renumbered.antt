-- Marks by place: in the order of the list each event takes as many of the marks 1, 2, 3, .. as it has (reposurgeon manual, `renumber`).
use Rattle.std.specs.Prelude.{ℕ, ◌+◌, List, [], ◌∷◌, length, map, option_map}
use Rattle.plain_model.specs.declared.event.PlainEvent.{PlainEvent}
use Rattle.plain_model.specs.declared.event.PlainEvent.TheVariants.{Blob, Commit, Tag, Reset, Pass}
use Rattle.plain_model.specs.Lookups.{event_marks}

-- as many marks as these, from the first on
abbrev pub marks_from : ℕ → List ℕ → List ℕ
marks_from first [] = []
marks_from first (mark ∷ marks) = first ∷ marks_from (first + 1) marks

-- the event with its marks from the first on: a commit's own and then its aliases, a tag's where it has one
abbrev pub marked_from : ℕ → PlainEvent → PlainEvent
marked_from first (Blob id mark bytes) = Blob id first bytes
marked_from first (Commit id mark branch author committer encoding comment parents ops aliases) =
    Commit id first branch author committer encoding comment parents ops (marks_from (first + 1) aliases)
marked_from first (Tag id name target tagger comment mark) = Tag id name target tagger comment (option_map (λ _. first) mark)
marked_from first (Reset id branch target) = Reset id branch target
marked_from first (Pass id line) = Pass id line

-- the events, whose marks go on from the next one
abbrev pub renumbered_from : ℕ → List PlainEvent → List PlainEvent
renumbered_from next [] = []
renumbered_from next (e ∷ events) = marked_from next e ∷ renumbered_from (next + length (event_marks e)) events

-- the whole history
abbrev pub renumbered : List PlainEvent → List PlainEvent
renumbered events = renumbered_from 1 events

-- the event, each of whose marks is this one
abbrev pub all_marked : ℕ → PlainEvent → PlainEvent
all_marked m (Blob id mark bytes) = Blob id m bytes
all_marked m (Commit id mark branch author committer encoding comment parents ops aliases) =
    Commit id m branch author committer encoding comment parents ops (map (λ _. m) aliases)
all_marked m (Tag id name target tagger comment mark) = Tag id name target tagger comment (option_map (λ _. m) mark)
all_marked m (Reset id branch target) = Reset id branch target
all_marked m (Pass id line) = Pass id line
