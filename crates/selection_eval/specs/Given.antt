-- What a selection gives: a list without repeats, of events that the history has. (own)
use Rattle.std.specs.Prelude.{List, map, Result, Ok, Err}
use Rattle.std.specs.List.{AllByRecursion}
use Rattle.plain_model.specs.Lookups.{id_of}
use Rattle.plain_model.specs.Paths.{Bytes}
use Rattle.plain_model.specs.declared.event.PlainEvent.{PlainEvent}
use Rattle.plain_model.specs.declared.fault.Fault.{Fault}
use Rattle.event_sets.specs.Once.{AreLive, IsOnce}
use Rattle.event_sets.specs.Sets.{Ids}
use Rattle.selection_eval.specs.Names.{Names}
use Rattle.selection_eval.specs.Spots.{tip}

-- the events of a history have ids of their own
abbrev pub HaveOwnIds : List PlainEvent → Type 0
HaveOwnIds events = IsOnce (map id_of events)

-- each assigned list is without repeats
abbrev pub AreNamesOnce : Names → Type 0
AreNamesOnce names = AllByRecursion (λ n. IsOnce n.1) names

-- the list, if there is one, is without repeats
abbrev pub GivesOnce : Result Ids Fault → Type 0
GivesOnce (Ok ids) = IsOnce ids
GivesOnce (Err why) = Unit {0}

-- each of it is an event of the history
abbrev pub GivesLive : List PlainEvent → Result Ids Fault → Type 0
GivesLive events (Ok ids) = AreLive events ids
GivesLive events (Err why) = Unit {0}

-- the tips of branches are events of the history
abbrev pub AreTipsLive : List PlainEvent → Type 0
AreTipsLive events = (branch : Bytes) → AreLive events (tip branch events)
