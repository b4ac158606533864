-- How calls end: the ends of smaller calls as those of greater ones.
use Rattle.std.specs.Prelude.{Result, Ok, Err}
use Rattle.plain_model.specs.declared.fault.Fault.TheVariants as fault
use Rattle.plain_model.specs.declared.fault.Halt.{Halt}
use Rattle.plain_model.specs.declared.fault.Halt.TheVariants as halt
use Rattle.plain_model.specs.declared.status.Status.{Status}
use Rattle.plain_model.specs.declared.status.Status.TheVariants as status
use Rattle.stream_reader.specs.declared.fault.ReadFault.{ReadFault}
use Rattle.stream_reader.specs.declared.fault.ReadFault.TheVariants as stream
use Rattle.surgeon_store.specs.declared.whole_files.ReadEnd.{ReadEnd}
use Rattle.surgeon_store.specs.declared.whole_files.ReadEnd.TheVariants as read
use Rattle.surgeon_store.specs.declared.writing.WriteEnd.{WriteEnd}
use Rattle.surgeon_store.specs.declared.writing.WriteEnd.TheVariants as write
use Rattle.surgeon_session.specs.declared.halted.Halted.{Halted}
use Rattle.surgeon_session.specs.declared.halted.Halted.TheVariants as halted

-- the end of a call that meets nothing outside
abbrev pub of_halt : Halt → Halted
of_halt (halt.Refused fault) = halted.Refused fault
of_halt halt.Memory = halted.Memory

-- the same of its answer
abbrev pub of_answer : {X : Type 0} → Result X Halt → Result X Halted
of_answer (Ok x) = Ok x
of_answer (Err why) = Err (of_halt why)

-- the end of a call that reads
abbrev pub of_read_end : ReadEnd → Halted
of_read_end (read.Refused fault) = halted.Refused fault
of_read_end read.SourceFault = halted.SourceFault
of_read_end read.Memory = halted.Memory

-- why a stream isn't read, as the end of a call that reads
abbrev pub of_read_fault : ReadFault → ReadEnd
of_read_fault (stream.BadStream line why) = read.Refused (fault.BadStream line why)
of_read_fault (stream.Limit which number) = read.Refused (fault.Limit which number)
of_read_fault stream.MarksSpent = read.Refused fault.MarksSpent
of_read_fault stream.Memory = read.Memory

-- the end of a call that writes
abbrev pub of_write_end : WriteEnd → Halted
of_write_end write.SinkFault = halted.SinkFault
of_write_end write.Memory = halted.Memory

-- an answer as the status of a run
abbrev pub status_of : {X : Type 0} → Result X Halted → Status
status_of (Ok x) = status.Done
status_of (Err (halted.Refused fault)) = status.Refused
status_of (Err halted.SourceFault) = status.SourceFault
status_of (Err halted.SinkFault) = status.SinkFault
status_of (Err halted.Memory) = status.Memory

-- a status with which the run of a script ends
abbrev pub IsEnd : Status → Type 0
IsEnd status.Usage = ⊥
IsEnd status.NoScript = ⊥
IsEnd status.BadScript = ⊥
IsEnd other = Unit {0}
