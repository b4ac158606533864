-- How far a file is read of which a line is refused.
use Rattle.std.specs.Prelude.{◌≡◌, ℕ, ◌+◌, ◌≤◌, ◌++◌, List, [], length, drop, Option, Some, None, Result, Ok, Err, IfSome, option_and_then}
use Rattle.std.specs.FinMap.{get}
use Rattle.plain_model.specs.Counts.{Rose}
use Rattle.plain_model.specs.Files.{Files}
use Rattle.plain_model.specs.Paths.{Bytes}
use Rattle.plain_model.specs.declared.fault.Fault.{Fault}
use Rattle.plain_model.specs.declared.fault.Fault.TheVariants as fault
use Rattle.plain_model.specs.declared.fault.Why.TheVariants.{Truncated}
use Rattle.plain_model.specs.declared.event.PlainEvent.{PlainEvent}
use Rattle.plain_model.specs.declared.limit.TheConstants.{MAX_STREAM_BYTES}
use Rattle.line_automaton.specs.Machine.{Mode, first_lines}
use Rattle.line_automaton.specs.Machine.Machine.{At}
use Rattle.stream_grammar.specs.Lines.{State}
use Rattle.stream_reader.specs.Reading.{HasRead, Reading, StreamMachine, after, at_start}
use Rattle.history_machine.specs.Loading.{read_of}
use Rattle.script_reader.specs.declared.command.Command.{Command}
use Rattle.script_reader.specs.declared.command.Command.TheVariants as command
use Rattle.surgeon_store.specs.Outside.{StoreState}
use Rattle.surgeon_store.specs.WholeFiles.{ReturnsOrBreaks}
use Rattle.surgeon_store.specs.declared.whole_files.ReadEnd.{ReadEnd}
use Rattle.surgeon_store.specs.declared.whole_files.ReadEnd.TheVariants as ended
use Rattle.surgeon_session.specs.Calls.{AsTold}
use Rattle.surgeon_session.specs.declared.halted.Halted.{Halted}
use Rattle.surgeon_session.specs.declared.halted.Halted.TheVariants as halted

-- Where line n ends in an LF, the bytes that were taken reach at most 65,536 bytes past that LF.
abbrev pub EndsNear : ℕ → Bytes → Option Bytes → Type 0
EndsNear n bytes rest =
    (others : Bytes) → bytes ≡ first_lines n bytes ++ others
    → (k : ℕ) × (k ≤ length (first_lines n bytes) + 65536) × (rest ≡ Some (drop k bytes))

-- at most so many of the bytes were taken
abbrev pub TakesWithin : ℕ → Bytes → Option Bytes → Type 0
TakesWithin most bytes rest = (k : ℕ) × (k ≤ most) × (rest ≡ Some (drop k bytes))

-- the bytes are within the limit, and none is left
abbrev pub IsTakenWhole : Bytes → Option Bytes → Type 0
IsTakenWhole bytes rest = (length bytes ≤ MAX_STREAM_BYTES) × (rest ≡ Some [])

-- Where a file is refused for this, so much of it was taken. Of a line of a stream that is refused: no byte past the limit, and at most a
-- piece past the line; that the file ends too early isn't known before its end. Of a line that an edit is refused for: all of it. Of a file
-- that is too long: one byte past the limit.
abbrev pub StopsAt : Fault → Bytes → Option Bytes → Type 0
StopsAt (fault.BadStream n why) bytes rest = TakesWithin MAX_STREAM_BYTES bytes rest × ((why ≡ Truncated → ⊥) → EndsNear n bytes rest)
StopsAt (fault.Limit which number) bytes rest = TakesWithin MAX_STREAM_BYTES bytes rest
StopsAt fault.MarksSpent bytes rest = TakesWithin MAX_STREAM_BYTES bytes rest
StopsAt (fault.BadMessage n) bytes rest = IsTakenWhole bytes rest
StopsAt (fault.NoSuchTarget n) bytes rest = IsTakenWhole bytes rest
StopsAt (fault.CheckText n) bytes rest = IsTakenWhole bytes rest
StopsAt (fault.BadAuthors n) bytes rest = IsTakenWhole bytes rest
StopsAt (fault.TooLong name limit) bytes rest = rest ≡ Some (drop (MAX_STREAM_BYTES + 1) bytes)
StopsAt other bytes rest = Unit {0}

-- the same of a file whose bytes are told, if it is refused
abbrev pub StopsNear : Option Bytes → Option Fault → Option Bytes → Type 0
StopsNear (Some bytes) (Some fault) rest = StopsAt fault bytes rest
StopsNear (Some bytes) None rest = Unit {0}
StopsNear None refused rest = Unit {0}

-- a file that is read whole is within the limit, and nothing of it is left
abbrev pub LeavesNothing : Option Bytes → Option Bytes → Type 0
LeavesNothing file rest = IfSome file (λ bytes. IsTakenWhole bytes rest)

-- no line is refused so far
abbrev pub GoesOn : StreamMachine → Type 0
GoesOn m = (n : ℕ) × (mode : Mode) × (s : State) × (m ≡ At n mode s)

-- all bytes of a file have come, no line of them is refused, and none is left
abbrev pub IsWhole : Option Bytes → Reading → Option Bytes → Type 0
IsWhole file reader rest =
    (come : Bytes) × HasRead reader come × GoesOn (after at_start come) × (length come ≤ MAX_STREAM_BYTES)
    × IfSome file (λ bytes. (come ≡ bytes) × (rest ≡ Some []))

-- What a call that takes a file in pieces says of it: it is there whole, or its history breaks off as the call does. A file that isn't told
-- is one of which these bytes came.
abbrev pub Tells : Bytes → Option Bytes → Result (Unit {0}) ReadEnd → Reading → Option Bytes → Type 0
Tells name file (Ok done) reader rest = IsWhole file reader rest
Tells name file (Err end) reader rest =
    AsTold file (λ bytes. ReturnsOrBreaks {X = List PlainEvent} (λ l. l) (Err end) (read_of name (Some bytes)))

-- why a call is refused, if it is
abbrev pub read_refused : {X : Type 0} → Result X ReadEnd → Option Fault
read_refused (Err (ended.Refused fault)) = Some fault
read_refused other = None

abbrev pub refused : {X : Type 0} → Result X Halted → Option Fault
refused (Err (halted.Refused fault)) = Some fault
refused other = None

-- a file that is refused since it is missing was looked for, and that is counted
abbrev pub CountsMiss : Option Fault → StoreState → StoreState → Type 0
CountsMiss (Some (fault.Absent name)) s s' = Rose s.misses s'.misses
CountsMiss other s s' = Unit {0}

-- the bytes of a file, where files are reported and it is there
abbrev pub bytes_in : Option Files → Bytes → Option Bytes
bytes_in files name = option_and_then (λ found. get found name) files

-- the bytes of the file that a command reads
abbrev pub bytes_read : Option Files → Command → Option Bytes
bytes_read files (command.Read file name) = bytes_in files file
bytes_read files (command.EditBy what file) = bytes_in files file
bytes_read files other = None

-- of a command that reads a file
abbrev pub CountsMissOf : Command → Option Fault → StoreState → StoreState → Type 0
CountsMissOf (command.Read file name) refused s s' = CountsMiss refused s s'
CountsMissOf (command.EditBy what file) refused s s' = CountsMiss refused s s'
CountsMissOf other refused s s' = Unit {0}
