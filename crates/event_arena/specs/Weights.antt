-- What events weigh: no less than the room that they need, and less to count. (own)
use Rattle.std.specs.Prelude.{ℕ, ◌+◌, List, length}
use Rattle.std.specs.List.{sum_by}
use Rattle.plain_model.specs.declared.event.PlainEvent.{PlainEvent}
use Rattle.plain_model.specs.declared.event.PlainEvent.TheVariants.{Blob, Commit, Tag, Reset, Pass}

-- a commit by its parents, its operations and its aliases; of any other event no more than 3 are ever needed
abbrev pub event_weight : PlainEvent → ℕ
event_weight (Commit id mark branch author committer encoding comment parents ops aliases) = length parents + length ops + length aliases + 2
event_weight (Blob id mark bytes) = 3
event_weight (Tag id name target tagger comment mark) = 3
event_weight (Reset id branch target) = 3
event_weight (Pass id line) = 3

abbrev pub weight_of : List PlainEvent → ℕ
weight_of events = sum_by event_weight events
