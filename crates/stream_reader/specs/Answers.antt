-- What the reader answers, against what a stream gives.
use Rattle.std.specs.Prelude.{◌≡◌, Result, Err}
use Rattle.plain_model.specs.declared.fault.Fault.{Fault}
use Rattle.plain_model.specs.declared.fault.Fault.TheVariants as plain
use Rattle.plain_model.specs.Paths.{Bytes}
use Rattle.production_laws.specs.Streams.{HasDefect, IsNoStream}
use Rattle.stream_reader.specs.declared.fault.ReadFault.{ReadFault}
use Rattle.stream_reader.specs.declared.fault.ReadFault.TheVariants as read

-- the fault is the one that is given; out of memory may be reported in place of anything
abbrev pub IsFaultOf : {A : Type 0} → Result A Fault → ReadFault → Type 0
IsFaultOf r (read.BadStream n why) = r ≡ Err (plain.BadStream n why)
IsFaultOf r (read.Limit which number) = r ≡ Err (plain.Limit which number)
IsFaultOf r read.MarksSpent = r ≡ Err plain.MarksSpent
IsFaultOf r read.Memory = Unit {0}

-- a bad stream is reported only of a text that spells no events with a history, and what is reported is its first defect
abbrev pub IsOfNoStream : Bytes → ReadFault → Type 0
IsOfNoStream text (read.BadStream n why) = IsNoStream text × HasDefect text n why
IsOfNoStream text (read.Limit which number) = Unit {0}
IsOfNoStream text read.MarksSpent = Unit {0}
IsOfNoStream text read.Memory = Unit {0}
