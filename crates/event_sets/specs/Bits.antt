-- A list of events as a bit for each place of the history, and an order only where it counts. (own)
use Rattle.std.specs.Prelude.{◌≡◌, ◌&&◌, Bool, List, [], ◌∷◌, ◌++◌, map, Option, Some, None, if◌then◌else◌}
use Rattle.plain_model.specs.Lookups.{id_of, is_listed}
use Rattle.plain_model.specs.declared.event.PlainEvent.{PlainEvent}
use Rattle.event_sets.specs.Sets.{Ids}

-- the events whose bit is set, ascending; events without a bit are out
abbrev pub picks : List Bool → List PlainEvent → Ids
picks [] events = []
picks (bit ∷ bits) [] = []
picks (bit ∷ bits) (e ∷ events) = if bit then id_of e ∷ picks bits events else picks bits events

-- the bits of a list
abbrev pub bits_of : List PlainEvent → Ids → List Bool
bits_of events ids = map (λ e. is_listed (id_of e) ids) events

-- what is set in both
abbrev pub both : List Bool → List Bool → List Bool
both [] right = []
both (l ∷ left) [] = []
both (l ∷ left) (r ∷ right) = (l && r) ∷ both left right

-- the list that bits stand for, with an order or ascending
abbrev pub value_of : List PlainEvent → List Bool → Option Ids → Ids
value_of events bits None = picks bits events
value_of events bits (Some order) = order

-- the bits are those of the list that they stand for
abbrev pub AreTied : List PlainEvent → List Bool → Option Ids → Type 0
AreTied events bits order = bits ≡ bits_of events (value_of events bits order)

-- the bits of a list become those of the same with these ids after it
abbrev pub Adds : List PlainEvent → Ids → List Bool → List Bool → Type 0
Adds events ids old new = (before : Ids) → old ≡ bits_of events before → new ≡ bits_of events (before ++ ids)
