-- How much room a list of events needs. (own)
use Rattle.std.specs.Prelude.{ℕ, ◌+◌, List, length, flat_map}
use Rattle.plain_model.specs.declared.event.PlainEvent.{PlainEvent}
use Rattle.plain_model.specs.Lookups.{marks_of, own_marks, referents_of}

-- one event: itself, what it refers to, and its marks
abbrev pub event_need : PlainEvent → ℕ
event_need e = 1 + length (referents_of e) + length (own_marks e)

-- the events, what they refer to, and their marks
abbrev pub need : List PlainEvent → ℕ
need events = length events + length (flat_map referents_of events) + length (marks_of events)
