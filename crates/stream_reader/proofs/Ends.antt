-- Where a stream ends.
use Rattle.std.proofs.Common.{◌≡◌, ℕ, true, [], ◌∷◌, Ok, Err, sym, ap, subst, ◌∙◌}
use Rattle.plain_model.specs.declared.fault.Fault.TheVariants as plain
use Rattle.plain_model.specs.Paths.{Bytes}
use Rattle.line_automaton.specs.Machine.{Mode, all, closed, verdict}
use Rattle.line_automaton.specs.Machine.Machine.{At}
use Rattle.line_automaton.specs.Machine.Mode.{InLine, InBlock, After, InDelimited, Ended}
use Rattle.line_automaton.proofs.Runs.{stays}
use Rattle.stream_grammar.specs.declared.lines.Standing.{Standing}
use Rattle.stream_grammar.specs.Known.{Known}
use Rattle.stream_grammar.specs.Lines.{State}
use Rattle.stream_grammar.specs.Limits.{if_known, known_given, known_in, stream_of, stream_within}
use Rattle.stream_reader.specs.declared.fault.ReadFault.{ReadFault}
use Rattle.stream_reader.specs.declared.fault.ReadFault.TheVariants as read
use Rattle.stream_reader.specs.declared.place.Place.{Place}
use Rattle.stream_reader.specs.declared.place.Place.TheVariants as place
use Rattle.stream_reader.specs.Answers.{IsFaultOf}
use Rattle.stream_reader.specs.Reading.{HasStopped, IsIn, StreamMachine, after, has_begun, reported, state}

-- a line that has begun gets its LF
pub last_line : (standing : Standing) (known : Known) (n come : ℕ) (p : Place) (m : StreamMachine) → has_begun p ≡ true → IsIn standing known n come p m → closed stream_within all m ≡ after m (10 ∷ [])
last_line standing known n come (place.Line []) m e h = absurd cc
last_line standing known n come (place.Line (b ∷ bs)) m e (spelled, is) = ap (closed stream_within all) is ∙ sym (ap (λ (x : StreamMachine). after x (10 ∷ [])) is)
last_line standing known n come (place.DelimitedBlock from delimiter bytes []) m e h = absurd cc
last_line standing known n come (place.DelimitedBlock from delimiter bytes (b ∷ bs)) m e (spelled, is) = ap (closed stream_within all) is ∙ sym (ap (λ (x : StreamMachine). after x (10 ∷ [])) is)
last_line standing known n come (place.Block from more bytes) m e h = absurd cc
last_line standing known n come (place.EndlessBlock from) m e h = absurd cc
last_line standing known n come (place.AfterBlock in_line) m e h = absurd cc
last_line standing known n come place.Over m e h = absurd cc
last_line standing known n come (place.Refused fault) m e h = absurd cc

-- what is reported as a fault has stopped the machine
pub reported_stops : (standing : Standing) (known : Known) (n come : ℕ) (p : Place) (fault : ReadFault) (m : StreamMachine) → Err fault ≡ reported p → IsIn standing known n come p m → HasStopped fault m
reported_stops standing known n come (place.Refused f) fault m e h = let same : f ≡ fault = cc in subst (λ (x : ReadFault). HasStopped x m) same h
reported_stops standing known n come (place.Line text) fault m e h = absurd cc
reported_stops standing known n come (place.DelimitedBlock from delimiter bytes text) fault m e h = absurd cc
reported_stops standing known n come (place.Block from more bytes) fault m e h = absurd cc
reported_stops standing known n come (place.EndlessBlock from) fault m e h = absurd cc
reported_stops standing known n come (place.AfterBlock in_line) fault m e h = absurd cc
reported_stops standing known n come place.Over fault m e h = absurd cc

-- where no fault is reported it hasn't stopped
pub reads_on : (standing : Standing) (known : Known) (n come : ℕ) (p : Place) (m : StreamMachine) → Ok tt ≡ reported p → IsIn standing known n come p m → (i : ℕ) × (mode : Mode) × (s : State) × (m ≡ At i mode s)
reads_on standing known n come (place.Line text) m e (spelled, is) = (n, InLine text, state standing spelled known, is)
reads_on standing known n come (place.Block from more bytes) m e (spelled, is) = (n, InBlock from more bytes, state standing spelled known, is)
reads_on standing known n come (place.EndlessBlock from) m e (i, k, bytes, large, (spelled, is)) = (i, InBlock from k bytes, state standing spelled known, is)
reads_on standing known n come (place.AfterBlock in_line) m e (spelled, is) = (n, After in_line, state standing spelled known, is)
reads_on standing known n come (place.DelimitedBlock from delimiter bytes text) m e (spelled, is) = (n, InDelimited from delimiter bytes text, state standing spelled known, is)
reads_on standing known n come place.Over m e (i, (spelled, is)) = (i, Ended, state standing spelled known, is)
reads_on standing known n come (place.Refused fault) m e h = absurd cc

-- a machine that has stopped gives its fault, also at the end
pub stopped_given : (fault : ReadFault) (m : StreamMachine) → HasStopped fault m → IsFaultOf (known_given (verdict stream_within m)) fault
stopped_given (read.BadStream n why) m is = ap (λ (x : StreamMachine). known_given (verdict stream_within x)) is
stopped_given (read.Limit which number) m (n, is, same) =
    ap (λ (x : StreamMachine). known_given (verdict stream_within x)) is ∙ ap (λ k. Err (plain.Limit which k)) (sym same)
stopped_given read.MarksSpent m h = absurd h
stopped_given read.Memory m h = tt

-- it stays so
pub stopped_on : (fault : ReadFault) (m : StreamMachine) (part : Bytes) → HasStopped fault m → HasStopped fault (after m part)
stopped_on (read.BadStream n why) m part is = ap (λ (x : StreamMachine). after x part) is ∙ stays stream_within all n _ part
stopped_on (read.Limit which number) m part (n, is, known) = (n, ap (λ (x : StreamMachine). after x part) is ∙ stays stream_within all n _ part, known)
stopped_on read.MarksSpent m part h = h
stopped_on read.Memory m part h = tt

pub stopped_closed : (fault : ReadFault) (m : StreamMachine) → HasStopped fault m → HasStopped fault (closed stream_within all m)
stopped_closed (read.BadStream n why) m is = ap (closed stream_within all) is
stopped_closed (read.Limit which number) m (n, is, same) = (n, ap (closed stream_within all) is, same)
stopped_closed read.MarksSpent m h = h
stopped_closed read.Memory m h = tt

-- a fault of the lines is that of the stream
pub given_fault : (bytes : Bytes) (fault : ReadFault) → IsFaultOf (known_in bytes) fault → IsFaultOf (stream_of bytes) fault
given_fault bytes (read.BadStream n why) e = ap if_known e
given_fault bytes (read.Limit which number) e = ap if_known e
given_fault bytes read.MarksSpent e = ap if_known e
given_fault bytes read.Memory h = tt
