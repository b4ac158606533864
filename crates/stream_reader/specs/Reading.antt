-- Where the reading of a stream has come to, as the machine of its grammar.
use Rattle.std.specs.Prelude.{◌≡◌, ℕ, ◌+◌, ◌≤◌, ◌^◌, Bool, true, false, not, List, [], ◌∷◌, Result, Ok, Err}
use Rattle.plain_model.specs.declared.fault.Which.{Which}
use Rattle.plain_model.specs.declared.fault.Why.{Why}
use Rattle.plain_model.specs.Parts.{is_lf}
use Rattle.plain_model.specs.Paths.{Bytes}
use Rattle.line_automaton.specs.Limits.{Cause}
use Rattle.line_automaton.specs.Limits.Cause.{Defect, Exceeds}
use Rattle.line_automaton.specs.Machine.{Machine, Mode, Next, all, answered, begun, compared, entered, moved, run}
use Rattle.line_automaton.specs.Machine.Machine.{At, Stopped}
use Rattle.line_automaton.specs.Machine.Mode.{InLine, InBlock, After, InDelimited, Ended}
use Rattle.stream_grammar.specs.declared.lines.Standing.{Standing}
use Rattle.stream_grammar.specs.Known.{Known}
use Rattle.stream_grammar.specs.Limits.{limit_number, stream_within}
use Rattle.stream_grammar.specs.Lines.{State}
use Rattle.stream_builder.specs.declared.fault.LineFault.{LineFault}
use Rattle.stream_builder.specs.declared.fault.LineFault.TheVariants as line
use Rattle.stream_reader.specs.declared.fault.ReadFault.{ReadFault}
use Rattle.stream_reader.specs.declared.fault.ReadFault.TheVariants as read
use Rattle.stream_reader.specs.declared.place.Place.{Place}
use Rattle.stream_reader.specs.declared.place.Place.TheVariants as place

-- the fault of a line by its number
abbrev pub in_line : ℕ → LineFault → ReadFault
in_line n (line.Bad why) = read.BadStream n why
in_line n (line.Limit which) = read.Limit which (limit_number which)
in_line n line.Memory = read.Memory

-- the machine of the grammar within its limits
abbrev pub StreamMachine : Type 0
StreamMachine = Machine State (Cause Why Which)

abbrev pub state : Standing → List Bytes → Known → State
state standing spelled known = record { standing = standing; spelled = spelled; known = known }

-- the machine before the first byte, and after more bytes
abbrev pub at_start : StreamMachine
at_start = begun stream_within

abbrev pub after : StreamMachine → Bytes → StreamMachine
after m bytes = run stream_within all m bytes

-- What is kept of a stream that is being read: the place of the next byte, where the stream is between two lines, the
-- number of the line that the next byte is in, what is known of its events, and how many bytes have come.
pub record Reading : Type 0 where
  pub place : Place
  pub standing : Standing
  pub number : ℕ
  pub known : Known
  pub come : ℕ

-- the machine is in line n at such a place, whatever the lines and blocks so far are
abbrev pub IsAt : Standing → Known → ℕ → Mode → StreamMachine → Type 0
IsAt standing known n mode m = (spelled : List Bytes) × (m ≡ At n mode (state standing spelled known))

-- the machine has stopped for this fault; out of memory is no matter of the text
abbrev pub HasStopped : ReadFault → StreamMachine → Type 0
HasStopped (read.BadStream n why) m = m ≡ Stopped n (Defect why)
HasStopped (read.Limit which number) m = (n : ℕ) × (m ≡ Stopped n (Exceeds which)) × (number ≡ limit_number which)
HasStopped read.MarksSpent m = ⊥
HasStopped read.Memory m = Unit {0}

-- The machine is at the place in line n, where so many bytes have come. A block of more bytes than can come is never whole, so its
-- bytes aren't kept; and no lines are counted after the end.
abbrev pub IsIn : Standing → Known → ℕ → ℕ → Place → StreamMachine → Type 0
IsIn standing known n come (place.Line text) m = IsAt standing known n (InLine text) m
IsIn standing known n come (place.Block from more bytes) m = IsAt standing known n (InBlock from more bytes) m
IsIn standing known n come (place.EndlessBlock from) m =
    (i k : ℕ) × (bytes : Bytes) × (2 ^ 63 ≤ k + come) × IsAt standing known i (InBlock from k bytes) m
IsIn standing known n come (place.AfterBlock in_line) m = IsAt standing known n (After in_line) m
IsIn standing known n come (place.DelimitedBlock from delimiter bytes text) m = IsAt standing known n (InDelimited from delimiter bytes text) m
IsIn standing known n come place.Over m = (i : ℕ) × IsAt standing known i Ended m
IsIn standing known n come (place.Refused fault) m = HasStopped fault m

-- what was read makes the machine come to this
abbrev pub HasCome : Reading → StreamMachine → Type 0
HasCome r m = IsIn r.standing r.known r.number r.come r.place m

-- the bytes that were read are these
abbrev pub HasRead : Reading → Bytes → Type 0
HasRead r bytes = HasCome r (after at_start bytes)

-- what a call reports of a reading: its fault, once a line was refused
abbrev pub reported : Place → Result (Unit {0}) ReadFault
reported (place.Refused fault) = Err fault
reported (place.Line _) = Ok tt
reported (place.Block from more bytes) = Ok tt
reported (place.EndlessBlock from) = Ok tt
reported (place.AfterBlock in_line) = Ok tt
reported (place.DelimitedBlock from delimiter bytes _) = Ok tt
reported place.Over = Ok tt

-- where the next byte is after something that may be refused
abbrev pub placed : Result Place ReadFault → Place
placed (Ok p) = p
placed (Err fault) = place.Refused fault

-- the place stays after something that may be refused
abbrev pub stayed : Place → Result (Unit {0}) ReadFault → Result Place ReadFault
stayed p (Ok _) = Ok p
stayed p (Err fault) = Err fault

-- what is kept is this place, or memory is out
abbrev pub Makes : Result Place ReadFault → Place → Type 0
Makes (Ok made) p = made ≡ p
Makes (Err fault) p = fault ≡ read.Memory

-- something has come of a line, which the end of the stream ends
abbrev pub is_some_text : Bytes → Bool
is_some_text [] = false
is_some_text (b ∷ bs) = true

abbrev pub has_begun : Place → Bool
has_begun (place.Line text) = is_some_text text
has_begun (place.DelimitedBlock from delimiter bytes text) = is_some_text text
has_begun (place.Block from more bytes) = false
has_begun (place.EndlessBlock from) = false
has_begun (place.AfterBlock in_line) = false
has_begun place.Over = false
has_begun (place.Refused fault) = false

-- the next byte is the first of a line
abbrev pub is_between_lines : Place → Bool
is_between_lines (place.Line text) = not (is_some_text text)
is_between_lines (place.DelimitedBlock from delimiter bytes text) = false
is_between_lines (place.Block from more bytes) = false
is_between_lines (place.EndlessBlock from) = false
is_between_lines (place.AfterBlock in_line) = false
is_between_lines place.Over = false
is_between_lines (place.Refused fault) = false

-- the next byte is an LF
abbrev pub begins_with_lf : Bytes → Bool
begins_with_lf [] = false
begins_with_lf (b ∷ bs) = is_lf b

-- ---- a line that has come whole

-- the machine after line n
abbrev pub after_line : ℕ → State → Bytes → StreamMachine
after_line n s line = moved stream_within n (n + 1) (answered stream_within n line (stream_within.step true s line))

-- what a line makes: the next byte is at this place of the next line, or the line is refused
abbrev pub Leads : Standing → Known → ℕ → ℕ → Result Place ReadFault → StreamMachine → Type 0
Leads standing known n come (Ok p) m = IsIn standing known n come p m
Leads standing known n come (Err fault) m = HasStopped fault m

-- the machine after line n, by what follows it
abbrev pub goes : ℕ → Bytes → State → Result Next Why → StreamMachine
goes n line s (Ok next) = (let to = entered stream_within n line next s in At (n + 1) to.0 to.1)
goes n line s (Err why) = Stopped n (Defect why)

-- after a line of a block up to a delimiter: that line, or one more of the block
abbrev pub after_compared : ℕ → ℕ → Bytes → Bytes → Bytes → State → StreamMachine
after_compared n from delimiter bytes line s =
    (let to = compared stream_within from delimiter bytes line s in At (n + 1) to.0 to.1)
