-- Whole files: what is read of one within a limit, and what is there after one was written.
use Rattle.std.specs.Prelude.{◌≡◌, ◌⊎◌, ℕ, ◌++◌, length, take, drop, nat_lt, Option, Some, None, Result, Ok, Err, IfSome, if◌then◌else◌}
use Rattle.std.specs.FinMap.{get, insert}
use Rattle.plain_model.specs.Files.{Files}
use Rattle.plain_model.specs.Paths.{Bytes}
use Rattle.plain_model.specs.declared.fault.Fault.{Fault}
use Rattle.plain_model.specs.declared.fault.Fault.TheVariants as fault
use Rattle.plain_model.specs.declared.fault.Halt.{Halt}
use Rattle.plain_model.specs.declared.fault.Halt.TheVariants as halt
use Rattle.surgeon_store.specs.Outside.{CountsNoFault, StoreState, written_of}
use Rattle.surgeon_store.specs.declared.whole_files.ReadEnd.{ReadEnd}
use Rattle.surgeon_store.specs.declared.whole_files.ReadEnd.TheVariants as ended

-- ---- the bytes of a file

-- what was found under a name, unless there is nothing or more bytes than a limit
abbrev pub within : Bytes → ℕ → Option Bytes → Result Bytes Fault
within name limit None = Err (fault.Absent name)
within name limit (Some bytes) = if nat_lt limit (length bytes) then Err (fault.TooLong name limit) else Ok bytes

-- the bytes of a file, which is there and within a limit
abbrev pub file_within : Files → Bytes → ℕ → Result Bytes Fault
file_within files name limit = within name limit (get files name)

-- a file isn't read since it isn't there, or has more bytes than a limit
abbrev pub IsFileFault : Bytes → ℕ → Fault → Type 0
IsFileFault name limit why = (why ≡ fault.Absent name) ⊎ (why ≡ fault.TooLong name limit)

-- the first bytes of what was found under a name, at most so many
abbrev pub front : Bytes → ℕ → Option Bytes → Result Bytes Fault
front name most None = Err (fault.Absent name)
front name most (Some bytes) = Ok (take most bytes)

-- the first bytes of a file, which is there
abbrev pub front_of : Files → Bytes → ℕ → Result Bytes Fault
front_of files name most = front name most (get files name)

-- ---- calls that read

-- a value is the one that is specified, and so is a refusal; a fault of the source or out of memory may come in their place
abbrev pub ReturnsOrBreaks : {X Y : Type 0} → (X → Y) → Result X ReadEnd → Result Y Fault → Type 0
ReturnsOrBreaks view (Ok x) specified = specified ≡ Ok (view x)
ReturnsOrBreaks view (Err (ended.Refused fault)) specified = specified ≡ Err fault
ReturnsOrBreaks view (Err other) specified = Unit {0}

-- a call with a value or a refusal has taken no more than the first so many of the bytes
abbrev pub LeavesAfter : {X : Type 0} → ℕ → Bytes → Result X ReadEnd → StoreState → Type 0
LeavesAfter n bytes (Ok x) now = now.rest ≡ Some (drop n bytes)
LeavesAfter n bytes (Err (ended.Refused fault)) now = now.rest ≡ Some (drop n bytes)
LeavesAfter n bytes (Err other) now = Unit {0}

-- a call that reads counts no fault but the one that it answers
abbrev pub IsQuiet : {X : Type 0} → Result X ReadEnd → StoreState → StoreState → Type 0
IsQuiet (Ok x) old new = CountsNoFault old new
IsQuiet (Err ended.SourceFault) old new = Unit {0}
IsQuiet (Err other) old new = CountsNoFault old new

-- the end of a call that meets nothing outside, as one of a call that reads
abbrev pub read_end_of : Halt → ReadEnd
read_end_of (halt.Refused fault) = ended.Refused fault
read_end_of halt.Memory = ended.Memory

-- ---- calls that write

-- a file holds a first part of bytes, or all files are as they were
abbrev pub PartWritten : Bytes → Bytes → Files → Option Files → Type 0
PartWritten name bytes files now = (now ≡ Some files) ⊎ ((n : ℕ) × (now ≡ Some (insert files name (take n bytes))))

-- the bytes go to the end of the file that is written
abbrev pub Grows : StoreState → Bytes → StoreState → Type 0
Grows old bytes new = IfSome (written_of old) (λ before. written_of new ≡ Some (before ++ bytes))

-- a first part of the bytes goes to the end of the file that is written
abbrev pub GrowsSome : StoreState → Bytes → StoreState → Type 0
GrowsSome old bytes new = IfSome (written_of old) (λ before. (n : ℕ) × (written_of new ≡ Some (before ++ take n bytes)))
