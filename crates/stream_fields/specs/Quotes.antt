-- The quoting of a path as code keeps it, and as the definitions see it.
use Rattle.std.specs.Prelude.{◌≤◌}
use Rattle.plain_model.specs.Fields.{Quoting, Turn}
use Rattle.plain_model.specs.Fields.Quoting.{Between, Escaping, OneDigit, TwoDigits}
use Rattle.plain_model.specs.Fields.Turn.{Ends, Says, GoesOn, Unfit}
use Rattle.stream_fields.specs.declared.quoting.QuotePlace.{QuotePlace}
use Rattle.stream_fields.specs.declared.quoting.QuotePlace.TheVariants as place
use Rattle.stream_fields.specs.declared.quoting.QuoteStep.{QuoteStep}
use Rattle.stream_fields.specs.declared.quoting.QuoteStep.TheVariants as step

abbrev pub quoting_of : QuotePlace → Quoting
quoting_of place.Between = Between
quoting_of place.Escaping = Escaping
quoting_of (place.OneDigit n) = OneDigit n
quoting_of (place.TwoDigits n) = TwoDigits n

abbrev pub turn_of : QuoteStep → Turn
turn_of step.Ends = Ends
turn_of (step.Says byte) = Says byte
turn_of (step.GoesOn to) = GoesOn (quoting_of to)
turn_of step.Unfit = Unfit

-- the digits so far say no more than a byte holds
abbrev pub IsWithinByte : QuotePlace → Type 0
IsWithinByte place.Between = Unit {0}
IsWithinByte place.Escaping = Unit {0}
IsWithinByte (place.OneDigit n) = n ≤ 3
IsWithinByte (place.TwoDigits n) = n ≤ 31

abbrev pub StaysWithinByte : QuoteStep → Type 0
StaysWithinByte step.Ends = Unit {0}
StaysWithinByte (step.Says byte) = Unit {0}
StaysWithinByte (step.GoesOn to) = IsWithinByte to
StaysWithinByte step.Unfit = Unit {0}
