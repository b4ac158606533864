-- How many operations a list of events has.
use Rattle.std.specs.Prelude.{List, [], length, ℕ, ◌+◌, ◌∷◌}
use Rattle.plain_model.specs.declared.event.PlainEvent.{PlainEvent}
use Rattle.plain_model.specs.declared.event.PlainEvent.TheVariants as plain

abbrev pub ops_in_event : PlainEvent → ℕ
ops_in_event (plain.Commit id mark branch author committer encoding comment parents ops aliases) = length ops
ops_in_event (plain.Blob id mark bytes) = 0
ops_in_event (plain.Tag id name target tagger comment mark) = 0
ops_in_event (plain.Reset id branch target) = 0
ops_in_event (plain.Pass id line) = 0

-- the operations of a list of events
abbrev pub ops_in : List PlainEvent → ℕ
ops_in [] = 0
ops_in (e ∷ events) = ops_in_event e + ops_in events
