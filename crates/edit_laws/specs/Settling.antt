-- The order of a history: each event is after all that it refers to. (own)
use Rattle.std.specs.Prelude.{ℕ, zero, suc, Bool, List, [], ◌∷◌, ◌++◌, length, Option, Some, None, option_map, Result, Ok, Err, if◌then◌else◌}
use Rattle.std.specs.List.{list_all}
use Rattle.plain_model.specs.declared.event.PlainEvent.{PlainEvent}
use Rattle.plain_model.specs.declared.event.PlainEvent.TheVariants.{Blob, Commit, Tag, Reset, Pass}
use Rattle.plain_model.specs.Lookups.{referents_of}
use Rattle.plain_model.specs.Soundness.{has_id}

-- all that it refers to was taken
abbrev pub is_ready : List PlainEvent → PlainEvent → Bool
is_ready taken e = list_all (has_id taken) (referents_of e)

-- the earliest event that is ready, and the others in their order
abbrev pub first_ready : List PlainEvent → List PlainEvent → Option (PlainEvent × List PlainEvent)
first_ready taken [] = None
first_ready taken (e ∷ events) =
    if is_ready taken e then Some (e, events)
    else option_map (λ r. (r.0, e ∷ r.1)) (first_ready taken events)

-- Again and again the earliest event that is ready is taken, at most so many times: the events in the order in which
-- they were taken, or those that are never taken.
abbrev pub settle_on : ℕ → List PlainEvent → List PlainEvent → Result (List PlainEvent) (List PlainEvent)
settle_on n taken [] = Ok taken
settle_on zero taken (e ∷ events) = Err (e ∷ events)
settle_on (suc n) taken (e ∷ events) = elim (first_ready taken (e ∷ events)) [
  | None ↦ Err (e ∷ events)
  | Some r ↦ settle_on n (taken ++ r.0 ∷ []) r.1
]

-- the whole list, once for each event
abbrev pub settle : List PlainEvent → Result (List PlainEvent) (List PlainEvent)
settle events = settle_on (length events) [] events

-- the mark of the first commit among them
abbrev pub first_commit_mark : List PlainEvent → Option ℕ
first_commit_mark [] = None
first_commit_mark (Commit id mark branch author committer encoding comment parents ops aliases ∷ events) = Some mark
first_commit_mark (Blob id mark bytes ∷ events) = first_commit_mark events
first_commit_mark (Tag id name target tagger comment mark ∷ events) = first_commit_mark events
first_commit_mark (Reset id branch target ∷ events) = first_commit_mark events
first_commit_mark (Pass id line ∷ events) = first_commit_mark events
