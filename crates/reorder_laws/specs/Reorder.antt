-- `reorder`: a line of commits is put into another order, or why it isn't (reposurgeon manual, `reorder`; the faults:
-- own).
use Rattle.std.specs.Prelude.{ℕ, Bool, false, ◌&&◌, ◌==◌, List, [], ◌∷◌, ◌++◌, length, map, Option, Some, None, nat_lt, option_to_list, Result, Ok, Err, if◌then◌else◌}
use Rattle.std.specs.Map.{lookup}
use Rattle.plain_model.specs.declared.fault.Fault.{Fault}
use Rattle.plain_model.specs.declared.fault.Fault.TheVariants as fault
use Rattle.plain_model.specs.declared.id.AnyId.{AnyId}
use Rattle.plain_model.specs.declared.id.AnyId.TheVariants as any
use Rattle.plain_model.specs.declared.event.PlainEvent.{PlainEvent}
use Rattle.plain_model.specs.declared.event.PlainEvent.TheVariants.{Blob, Commit, Tag, Reset, Pass}
use Rattle.plain_model.specs.Lookups.{children_of, find_event, is_listed}
use Rattle.history_laws.specs.Finding.{event_number, is_only}
use Rattle.edit_laws.specs.Checking.{tree_check}
use Rattle.edit_laws.specs.Settling.{settle}
use Rattle.commit_laws.specs.Selected.{chosen, kind_fault, listed, node_of}

-- ---- the line

-- each commit has the one before it as its only parent, and is its only child; else the first that hasn't or isn't
abbrev pub line_fault : List PlainEvent → ℕ → List ℕ → Option Fault
line_fault events before [] = None
line_fault events before (v ∷ vs) =
    if is_only before (node_of events v).parents && is_only v (children_of before events) then line_fault events v vs
    else Some (fault.NotLinear (event_number events (any.Commit v)))

-- ---- parents

-- the first of some commits gets these parents, and each further one the commit before it
abbrev pub lined_up : List ℕ → List ℕ → List (ℕ × List ℕ)
lined_up parents [] = []
lined_up parents (w ∷ ws) = (w, parents) ∷ lined_up (w ∷ []) ws

-- the last of a commit and those after it
abbrev pub last_of : ℕ → List ℕ → ℕ
last_of c [] = c
last_of c (d ∷ ds) = last_of d ds

-- the new last commit of the line where the old one was
abbrev pub instead : ℕ → ℕ → ℕ → ℕ
instead old new p = if p == old then new else p

-- the parents of a commit afterwards: those given to it, or else its own, with the new last commit for the old one
abbrev pub parents_after : List (ℕ × List ℕ) → ℕ → ℕ → ℕ → List ℕ → List ℕ
parents_after given old new c parents = elim (lookup (λ w. w == c) given) [
  | Some ps ↦ ps
  | None ↦ map (instead old new) parents
]

-- an event with the parents that it has afterwards
abbrev pub relinked : List (ℕ × List ℕ) → ℕ → ℕ → PlainEvent → PlainEvent
relinked given old new (Commit id mark branch author committer encoding comment parents ops aliases) =
    Commit id mark branch author committer encoding comment (parents_after given old new id parents) ops aliases
relinked given old new (Blob id mark bytes) = Blob id mark bytes
relinked given old new (Tag id name target tagger comment mark) = Tag id name target tagger comment mark
relinked given old new (Reset id branch target) = Reset id branch target
relinked given old new (Pass id line) = Pass id line

-- ---- places

-- a commit of the set
abbrev pub is_placed : List AnyId → PlainEvent → Bool
is_placed set (Commit id mark branch author committer encoding comment parents ops aliases) = is_listed (any.Commit id) set
is_placed set (Blob id mark bytes) = false
is_placed set (Tag id name target tagger comment mark) = false
is_placed set (Reset id branch target) = false
is_placed set (Pass id line) = false

-- where a commit of the set stood, the next of these commits stands, as it is in the whole list
abbrev pub filled : List AnyId → List PlainEvent → List ℕ → List PlainEvent → List PlainEvent
filled set whole ws [] = []
filled set whole [] (e ∷ events) = if is_placed set e then filled set whole [] events else e ∷ filled set whole [] events
filled set whole (w ∷ ws) (e ∷ events) =
    if is_placed set e then option_to_list (find_event (any.Commit w) whole) ++ filled set whole ws events
    else e ∷ filled set whole (w ∷ ws) events

-- ---- the whole history, or why it is refused

-- all events with their new parents, in their old places
abbrev pub relinked_all : List PlainEvent → ℕ → List ℕ → ℕ → List ℕ → List PlainEvent
relinked_all events v vs w ws = map (relinked (lined_up (node_of events v).parents (w ∷ ws)) (last_of v vs) (last_of w ws)) events

-- the line from v on in the order from w on
abbrev pub reordered : List AnyId → List PlainEvent → ℕ → List ℕ → ℕ → List ℕ → Result (List PlainEvent) (List PlainEvent)
reordered set events v vs w ws =
    let whole = relinked_all events v vs w ws in
    settle (filled set whole (w ∷ ws) whole)

-- the new history, if each commit has a tree
abbrev pub unless_refused : List PlainEvent → Result (List PlainEvent) Fault
unless_refused new = elim (tree_check new) [ Ok done ↦ Ok new | Err why ↦ Err why ]

-- the line as it is, and the order that is wanted; settling always comes to its end
abbrev pub reorder_these : List AnyId → List PlainEvent → List ℕ → List ℕ → Result (List PlainEvent) Fault
reorder_these set events (v ∷ vs) (w ∷ ws) = elim (line_fault events v vs) [
  | Some why ↦ Err why
  | None ↦ elim (reordered set events v vs w ws) [
    | Ok new ↦ unless_refused new
    | Err never ↦ Ok events
  ]
]
reorder_these set events vs ws = Err (fault.WrongCount 0)

-- the history after a reorder, or the first fault: too few events, one that isn't a commit, no line, a tree that fails
abbrev pub reorder_of : List AnyId → List PlainEvent → Result (List PlainEvent) Fault
reorder_of set events =
    if nat_lt (length set) 2 then Err (fault.WrongCount (length set))
    else elim (kind_fault events set) [
      | Some why ↦ Err why
      | None ↦ reorder_these set events (listed set events) (chosen set)
    ]
