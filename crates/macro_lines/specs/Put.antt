-- What is kept of a line that is put together piece by piece. (own)
use Rattle.std.specs.Prelude.{◌≡◌, ◌<◌, ◌≤◌, [], ◌∷◌, ◌++◌, IsTrue, false, length, Result, Ok, Err}
use Rattle.std.specs.List.{list_all}
use Rattle.plain_model.specs.Paths.{Bytes}
use Rattle.plain_model.specs.declared.fault.Fault.{Fault}
use Rattle.plain_model.specs.declared.fault.Halt.{Halt}
use Rattle.plain_model.specs.declared.fault.Halt.TheVariants as halt
use Rattle.plain_model.specs.declared.limit.TheConstants.{MAX_LINE_BYTES}
use Rattle.script_lines.specs.Scripts.{is_long, is_margin, is_nothing, trimmed, without_front}
use Rattle.macro_lines.specs.declared.line.Line.{Line}
use Rattle.macro_lines.specs.declared.line.Line.TheVariants as line

-- a text is what counts of some bytes, up to blanks that reach past the limit of a line
abbrev pub EndsInBlanks : Bytes → Bytes → Type 0
EndsInBlanks text bytes =
    (blanks : Bytes) × IsTrue (list_all is_margin blanks) × (bytes ≡ text ++ blanks) × (MAX_LINE_BYTES < length bytes)

-- what is kept of a line of which these bytes were put in
abbrev pub IsKept : Line → Bytes → Type 0
IsKept (line.Whole text) put = (text ≡ without_front put) × (length text ≤ MAX_LINE_BYTES)
IsKept (line.Full text) put = EndsInBlanks text (without_front put) × (length text ≤ MAX_LINE_BYTES)
IsKept line.TooLong put = IsTrue (is_long (trimmed put)) × (is_nothing (without_front put) ≡ false)
IsKept line.Comment put = (text : Bytes) × (without_front put ≡ 35 ∷ text)

-- A line with words in its places is put together after what was begun, where that is what is kept of a line of which nothing was put
-- in; or it is refused as is specified.
abbrev pub Fills : Line → Result Line Halt → Result Bytes Fault → Type 0
Fills begun (Ok made) specified = (text : Bytes) × (specified ≡ Ok text) × (IsKept begun [] → IsKept made text)
Fills begun (Err (halt.Refused fault)) specified = specified ≡ Err fault
Fills begun (Err halt.Memory) specified = Unit {0}
