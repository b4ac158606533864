-- The texts of faults: a number and a name, and for each field a space, the field's name, `=` and the value. (own)
use Rattle.std.specs.Prelude.{◌≡◌, ℕ, List, [], ◌∷◌, ◌++◌, Result, Ok, Err, codes}
use Rattle.std.specs.Fmt.{decimal}
use Rattle.plain_model.specs.declared.fault.Why.{Why}
use Rattle.plain_model.specs.declared.fault.Why.TheVariants as defect
use Rattle.plain_model.specs.declared.fault.Which.{Which}
use Rattle.plain_model.specs.declared.fault.Which.TheVariants as limit
use Rattle.plain_model.specs.declared.fault.Fault.{Fault}
use Rattle.plain_model.specs.declared.fault.Fault.TheVariants as fault
use Rattle.plain_model.specs.declared.fault.Halt.{Halt}
use Rattle.plain_model.specs.declared.fault.Halt.TheVariants as halt

abbrev pub why_text : Why → List ℕ
why_text defect.UnknownLine = codes "UnknownLine"
why_text defect.BadMark = codes "BadMark"
why_text defect.RepeatedMark = codes "RepeatedMark"
why_text defect.UnknownMark = codes "UnknownMark"
why_text defect.UnknownRef = codes "UnknownRef"
why_text defect.BadName = codes "BadName"
why_text defect.BadPath = codes "BadPath"
why_text defect.BadMode = codes "BadMode"
why_text defect.BadPerson = codes "BadPerson"
why_text defect.BadWhen = codes "BadWhen"
why_text defect.BadData = codes "BadData"
why_text defect.Truncated = codes "Truncated"
why_text defect.MissingLine = codes "MissingLine"
why_text defect.MissingSource = codes "MissingSource"
why_text defect.LeftOut = codes "LeftOut"

abbrev pub which_text : Which → List ℕ
which_text limit.Commands = codes "Commands"
which_text limit.LineBytes = codes "LineBytes"
which_text limit.Events = codes "Events"
which_text limit.Operations = codes "Operations"
which_text limit.Parents = codes "Parents"
which_text limit.Aliases = codes "Aliases"
which_text limit.Paths = codes "Paths"
which_text limit.PathBytes = codes "PathBytes"
which_text limit.NameBytes = codes "NameBytes"

-- a field whose value is a text, as it is
abbrev pub text_field : List ℕ → List ℕ → List ℕ
text_field name value = 32 ∷ (name ++ 61 ∷ value)

-- a field whose value is a number, in decimal digits
abbrev pub number_field : List ℕ → ℕ → List ℕ
number_field name value = text_field name (decimal value)

-- the field `mark`, with the colon
abbrev pub mark_field : ℕ → List ℕ
mark_field mark = codes " mark=:" ++ decimal mark

abbrev pub fault_text : Fault → List ℕ
fault_text (fault.BadStream line why) = codes "10 BadStream" ++ number_field (codes "line") line ++ text_field (codes "why") (why_text why)
fault_text (fault.Absent name) = codes "11 Absent" ++ text_field (codes "name") name
fault_text (fault.TooLong name limit) = codes "12 TooLong" ++ text_field (codes "name") name ++ number_field (codes "limit") limit
fault_text (fault.UnknownCommand word) = codes "20 UnknownCommand" ++ text_field (codes "word") word
fault_text (fault.BadWords word) = codes "21 BadWords" ++ text_field (codes "word") word
fault_text (fault.UnknownMacro name) = codes "22 UnknownMacro" ++ text_field (codes "name") name
fault_text (fault.MacroDepth depth) = codes "23 MacroDepth" ++ number_field (codes "depth") depth
fault_text (fault.ExpansionLimit which number) = codes "24 ExpansionLimit" ++ text_field (codes "which") (which_text which) ++ number_field (codes "number") number
fault_text (fault.UnclosedDefine line) = codes "25 UnclosedDefine" ++ number_field (codes "line") line
fault_text (fault.BadText line) = codes "26 BadText" ++ number_field (codes "line") line
fault_text fault.NoRepo = codes "30 NoRepo"
fault_text (fault.NoSuchRepo name) = codes "31 NoSuchRepo" ++ text_field (codes "name") name
fault_text (fault.RepoTaken name) = codes "32 RepoTaken" ++ text_field (codes "name") name
fault_text (fault.TooManyRepos limit) = codes "33 TooManyRepos" ++ number_field (codes "limit") limit
fault_text (fault.BadSelection column) = codes "40 BadSelection" ++ number_field (codes "column") column
fault_text (fault.NoSuchMark mark) = codes "41 NoSuchMark" ++ mark_field mark
fault_text (fault.NoSuchEvent number) = codes "42 NoSuchEvent" ++ number_field (codes "number") number
fault_text (fault.NoSuchName name) = codes "43 NoSuchName" ++ text_field (codes "name") name
fault_text (fault.ReversedRange first last) = codes "44 ReversedRange" ++ number_field (codes "first") first ++ number_field (codes "last") last
fault_text (fault.BadPattern pattern) = codes "45 BadPattern" ++ text_field (codes "pattern") pattern
fault_text (fault.PatternTooBig pattern) = codes "46 PatternTooBig" ++ text_field (codes "pattern") pattern
fault_text (fault.BadMoment text) = codes "47 BadMoment" ++ text_field (codes "text") text
fault_text (fault.WrongCount found) = codes "50 WrongCount" ++ number_field (codes "found") found
fault_text (fault.NotACommit event) = codes "51 NotACommit" ++ number_field (codes "event") event
fault_text (fault.PushbackRoot mark) = codes "52 PushbackRoot" ++ mark_field mark
fault_text (fault.PushbackFork mark) = codes "53 PushbackFork" ++ mark_field mark
fault_text (fault.MissingSource mark op) = codes "54 MissingSource" ++ mark_field mark ++ number_field (codes "op") op
fault_text (fault.Cycle mark) = codes "55 Cycle" ++ mark_field mark
fault_text (fault.NotLinear event) = codes "56 NotLinear" ++ number_field (codes "event") event
fault_text (fault.BadIndex index) = codes "57 BadIndex" ++ number_field (codes "index") index
fault_text (fault.NoSuchPath path) = codes "58 NoSuchPath" ++ text_field (codes "path") path
fault_text (fault.NameTaken name) = codes "59 NameTaken" ++ text_field (codes "name") name
fault_text (fault.Limit which number) = codes "60 Limit" ++ text_field (codes "which") (which_text which) ++ number_field (codes "number") number
fault_text fault.MarksSpent = codes "61 MarksSpent"
fault_text (fault.NameAssigned name) = codes "62 NameAssigned" ++ text_field (codes "name") name
fault_text (fault.PathCollision mark op path) = codes "63 PathCollision" ++ mark_field mark ++ number_field (codes "op") op ++ text_field (codes "path") path
fault_text (fault.StillConnected mark) = codes "64 StillConnected" ++ mark_field mark
fault_text (fault.ChildCount mark found) = codes "65 ChildCount" ++ mark_field mark ++ number_field (codes "found") found
fault_text (fault.NotAdjacent mark) = codes "66 NotAdjacent" ++ mark_field mark
fault_text (fault.MomentRange event) = codes "67 MomentRange" ++ number_field (codes "event") event
fault_text (fault.BadMessage line) = codes "70 BadMessage" ++ number_field (codes "line") line
fault_text (fault.NoSuchTarget line) = codes "71 NoSuchTarget" ++ number_field (codes "line") line
fault_text (fault.CheckText line) = codes "72 CheckText" ++ number_field (codes "line") line
fault_text (fault.BadAuthors line) = codes "73 BadAuthors" ++ number_field (codes "line") line

-- what a call answers is the value that is specified, or the fault; only memory may be out
abbrev pub Returns : {X Y : Type 0} → (X → Y) → Result X Halt → Result Y Fault → Type 0
Returns view (Ok x) specified = specified ≡ Ok (view x)
Returns view (Err (halt.Refused fault)) specified = specified ≡ Err fault
Returns view (Err halt.Memory) specified = Unit {0}

-- the line that is printed where the command of a script's line is refused
unfoldable pub refusal : ℕ → Fault → List ℕ
refusal line fault = codes "surgeon: line " ++ decimal line ++ codes ": refused " ++ fault_text fault ++ 10 ∷ []
