-- What is made of a line, against the grammar.
use Rattle.std.specs.Prelude.{◌≡◌, Result, Ok, Err}
use Rattle.plain_model.specs.declared.fault.Which.{Which}
use Rattle.plain_model.specs.declared.fault.Why.{Why}
use Rattle.line_automaton.specs.Limits.{Cause}
use Rattle.line_automaton.specs.Limits.Cause.{Defect, Exceeds}
use Rattle.stream_fields.specs.declared.fault.FieldFault.{FieldFault}
use Rattle.stream_fields.specs.declared.fault.FieldFault.TheVariants as field
use Rattle.stream_grammar.specs.Known.{Known}
use Rattle.stream_builder.specs.declared.fault.LineFault.{LineFault}
use Rattle.stream_builder.specs.declared.fault.LineFault.TheVariants as line

-- the fault of a field as that of its line
abbrev pub line_fault : FieldFault → LineFault
line_fault (field.Bad why) = line.Bad why
line_fault field.Memory = line.Memory

-- what is known is what is expected, or the fault is the one that is expected; out of memory may be reported in place of either
abbrev pub Judges : Known → Result (Unit {0}) LineFault → Result Known (Cause Why Which) → Type 0
Judges new (Ok tt) expected = expected ≡ Ok new
Judges new (Err (line.Bad why)) expected = expected ≡ Err (Defect why)
Judges new (Err (line.Limit which)) expected = expected ≡ Err (Exceeds which)
Judges new (Err line.Memory) expected = Unit {0}
