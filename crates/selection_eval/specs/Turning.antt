-- Sets that are joined one after another, and what is made of one. (own)
use Rattle.std.specs.Prelude.{ℕ, List, Option, Some, None, Result}
use Rattle.plain_model.specs.declared.event.PlainEvent.{PlainEvent}
use Rattle.plain_model.specs.declared.fault.Halt.{Halt}
use Rattle.byte_patterns.specs.Judging.{Judged, Judges, ◌>>>◌}
use Rattle.selection_parser.specs.Plain.{PlainSelections}
use Rattle.event_sets.specs.declared.set.EventSet.{EventSet}
use Rattle.event_sets.specs.Sets.{Ids}
use Rattle.selection_eval.specs.Denoted.{in_turn, joined, known}
use Rattle.selection_eval.specs.Names.{Names}

-- the list so far, if there is one, joined with another
abbrev pub step : (Ids → Ids → Ids) → Option Ids → Ids → Ids
step join None ids = ids
step join (Some so_far) ids = join so_far ids

-- the list so far, if there is one, joined with that of each further selection in turn
abbrev pub turn : (Ids → Ids → Ids) → Option Ids → PlainSelections → List PlainEvent → Names → Judged Ids
turn join None all events names = joined join all events names
turn join (Some ids) all events names = in_turn join all ids events names

-- a call answers a set as it is judged
abbrev pub JudgesSet : ℕ → ℕ → Result EventSet Halt → Judged Ids → Type 0
JudgesSet before now answer judged = Judges (λ (set : EventSet). set.ids) before now answer judged

-- whatever was judged of the first answer, the same is judged of the second with this made of the list
abbrev pub Makes : (Ids → Ids) → Result EventSet Halt → Result EventSet Halt → Type 0
Makes f first second =
    (before now : ℕ) (judged : Judged Ids) → JudgesSet before now first judged
    → JudgesSet before now second (judged >>> λ ids. known (f ids))
