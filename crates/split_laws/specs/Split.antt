-- `split`: a commit becomes two, of which the second, its copy, has the later operations, and all that was on the commit is on
-- the copy; its marks stay with the first (reposurgeon manual, `split`).
use Rattle.std.specs.Prelude.{ℕ, ◌-◌, ◌+◌, Bool, false, ◌&&◌, ◌||◌, ◌==◌, nat_le, List, [], ◌∷◌, drop, flat_map, length, map, take, Option, Some, None, option_map, Result, Ok, Err, if◌then◌else◌}
use Rattle.plain_model.specs.declared.fault.Fault.{Fault}
use Rattle.plain_model.specs.declared.fault.Fault.TheVariants as fault
use Rattle.plain_model.specs.declared.id.AnyId.{AnyId}
use Rattle.plain_model.specs.declared.operation.FileOp.{FileOp}
use Rattle.plain_model.specs.declared.operation.FileOp.TheVariants.{Modify, Delete, Copy, Rename, DeleteAll}
use Rattle.plain_model.specs.declared.event.PlainEvent.{PlainEvent}
use Rattle.plain_model.specs.declared.event.PlainEvent.TheVariants.{Blob, Commit, Tag, Reset, Pass}
use Rattle.plain_model.specs.Lookups.{next_mark}
use Rattle.plain_model.specs.Paths.{Bytes, is_at_or_below}
use Rattle.edit_laws.specs.Passing.{limit_fault}
use Rattle.commit_laws.specs.Selected.{node_of, the_commit}

-- ---- the list

-- what was on the commit is on its copy
abbrev pub onto : ℕ → ℕ → ℕ → ℕ
onto c copy d = if d == c then copy else d

-- the commit that is split, with the id and the mark of its copy, and how many operations stay
module _ (c copy mark kept : ℕ) where
  abbrev pub split_event : PlainEvent → List PlainEvent
  split_event (Commit id its_mark branch author committer encoding comment parents ops aliases) =
      if id == c then
      Commit id its_mark branch author committer encoding comment parents (take kept ops) aliases
      ∷ Commit copy mark branch author committer encoding comment (id ∷ []) (drop kept ops) []
      ∷ []
      else Commit id its_mark branch author committer encoding comment (map (onto c copy) parents) ops aliases ∷ []
  split_event (Tag id name target tagger comment its_mark) = Tag id name (onto c copy target) tagger comment its_mark ∷ []
  split_event (Reset id branch target) = Reset id branch (option_map (onto c copy) target) ∷ []
  split_event (Blob id its_mark bytes) = Blob id its_mark bytes ∷ []
  split_event (Pass id line) = Pass id line ∷ []

  abbrev pub split_list : List PlainEvent → List PlainEvent
  split_list events = flat_map split_event events

-- ---- where

-- the path is one of the operation's, or above one
abbrev pub is_touched : Bytes → FileOp → Bool
is_touched path (Modify mode content its_path) = is_at_or_below path its_path
is_touched path (Delete its_path) = is_at_or_below path its_path
is_touched path (Copy source target) = is_at_or_below path source || is_at_or_below path target
is_touched path (Rename source target) = is_at_or_below path source || is_at_or_below path target
is_touched path DeleteAll = false

-- the number of the first such operation, going on from one
abbrev pub first_touch : Bytes → ℕ → List FileOp → Option ℕ
first_touch path number [] = None
first_touch path number (op ∷ ops) = if is_touched path op then Some number else first_touch path (number + 1) ops

-- ---- the whole history, or why it is refused

abbrev pub unless_limit : List PlainEvent → Result (List PlainEvent) Fault
unless_limit new = elim (limit_fault new) [ Some why ↦ Err why | None ↦ Ok new ]

-- the copy begins with the operation of this number
abbrev pub split_from : ℕ → ℕ → ℕ → List PlainEvent → Result (List PlainEvent) Fault
split_from copy c number events =
    if nat_le 2 number && nat_le number (length (node_of events c).ops) then
    elim (next_mark events) [
      | Some mark ↦ unless_limit (split_list c copy mark (number - 1) events)
      | None ↦ Err fault.MarksSpent
    ]
    else Err (fault.BadIndex number)

-- the id of the copy was never used
abbrev pub split_at_of : ℕ → ℕ → List AnyId → List PlainEvent → Result (List PlainEvent) Fault
split_at_of copy number set events = elim (the_commit events set) [
  | Ok c ↦ split_from copy c number events
  | Err why ↦ Err why
]

abbrev pub split_by_of : ℕ → Bytes → List AnyId → List PlainEvent → Result (List PlainEvent) Fault
split_by_of copy path set events = elim (the_commit events set) [
  | Ok c ↦ elim (first_touch path 1 (node_of events c).ops) [
    | Some number ↦ split_from copy c number events
    | None ↦ Err (fault.NoSuchPath path)
  ]
  | Err why ↦ Err why
]
