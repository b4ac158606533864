-- What one command does to a session and to the outside.
use Rattle.std.specs.List.{AllByRecursion}
use Rattle.std.specs.Prelude.{◌≡◌, ℕ, Bool, List, [], Option, None, Result, Ok, Err, OnErr}
use Rattle.plain_model.specs.Faults.{refusal}
use Rattle.plain_model.specs.Files.{Files}
use Rattle.plain_model.specs.Paths.{Bytes}
use Rattle.plain_model.specs.declared.fault.Fault.{Fault}
use Rattle.plain_model.specs.declared.status.Status.{Status}
use Rattle.plain_model.specs.declared.status.Status.TheVariants as status
use Rattle.script_reader.specs.declared.command.Command.{Command}
use Rattle.script_reader.specs.declared.command.Command.TheVariants as command
use Rattle.script_reader.specs.declared.command.Order.{Order}
use Rattle.script_reader.specs.declared.command.Order.TheVariants as order
use Rattle.script_lines.specs.declared.script.ScriptLine.{ScriptLine}
use Rattle.script_lines.specs.declared.script.ScriptLine.TheVariants.{Define, Plain}
use Rattle.script_reader.specs.Commands.{order_of}
use Rattle.surgeon_store.specs.Outside.{StoreState, SinkState}
use Rattle.history_machine.specs.Machine.{World, Effect, PartSent, Run, SessionEndsAs, after, passes_limit, sent, effect_of}
use Rattle.history_machine.specs.Sessions.{Session}
use Rattle.surgeon_session.specs.Calls.{AsTold, Outcome}
use Rattle.surgeon_session.specs.Ends.{status_of}
use Rattle.surgeon_session.specs.declared.halted.Halted.{Halted}
use Rattle.surgeon_session.specs.declared.halted.Halted.TheVariants as halted
use Rattle.surgeon_session.specs.declared.line_end.Broken.TheVariants as broken
use Rattle.surgeon_session.specs.declared.line_end.LineEnd.{LineEnd}
use Rattle.surgeon_session.specs.declared.line_end.LineEnd.TheVariants as line_end

-- ---- bytes that are sent

-- bytes are printed or are the whole of a file, or a first part of them is sent; that is never refused
abbrev pub Sends : {Y : Type 0} → Result Y Halted → Option Bytes → Bytes → World → World → Type 0
Sends (Ok y) to bytes w now = now ≡ sent to bytes w
Sends (Err (halted.Refused fault)) to bytes w now = ⊥
Sends (Err other) to bytes w now = PartSent to bytes w now

-- ---- one command, where the world is reported

-- a first part of what is specified is sent, and of a refusal nothing
abbrev pub PartOf : {X : Type 0} → World → Result (Effect X) Fault → World → Type 0
PartOf w (Ok t) now = PartSent t.to t.bytes w now
PartOf w (Err fault) now = now ≡ w

-- what is specified is done, in the session and in the world, and these lines are run next
abbrev pub Carries : {X : Type 0} → List Bytes → World → Result (Effect X) Fault → X → World → Type 0
Carries calls w (Ok t) s' now = (s' ≡ t.session) × (now ≡ after w t) × (t.calls ≡ calls)
Carries calls w (Err fault) s' now = ⊥

-- a line is carried out, or refused as is specified and nothing changed, or a first part of its bytes is sent and the session
-- is as it was; what is answered says which lines are run next
abbrev pub Steps : {X Y : Type 0} → (Y → List Bytes) → Result Y Halted → X → World → Result (Effect X) Fault → X → World → Type 0
Steps calls (Ok y) s w specified s' now = Carries (calls y) w specified s' now
Steps calls (Err (halted.Refused fault)) s w specified s' now = (specified ≡ Err fault) × (s' ≡ s) × (now ≡ w)
Steps calls (Err other) s w specified s' now = (s' ≡ s) × PartOf w specified now

-- a command of a session has no lines run next
abbrev pub no_calls : {Y : Type 0} → Y → List Bytes
no_calls y = []

-- ---- one command, over every store

-- the command is neither `read` nor `msgin`
abbrev pub ReadsNoFile : Command → Type 0
ReadsNoFile (command.Read file name) = ⊥
ReadsNoFile (command.EditBy what file) = ⊥
ReadsNoFile other = Unit {0}

-- what is specified is done, in the session, and these lines are run next
abbrev pub Leaves : {X : Type 0} → List Bytes → Result (Effect X) Fault → X → Type 0
Leaves calls (Ok t) s' = (s' ≡ t.session) × (t.calls ≡ calls)
Leaves calls (Err fault) s' = ⊥

-- a command or a line is done or refused as is specified, whatever is reported of the outside
abbrev pub Agrees : {X Y : Type 0} → (Y → List Bytes) → Result Y Halted → Result (Effect X) Fault → X → Type 0
Agrees calls (Ok y) specified s' = Leaves (calls y) specified s'
Agrees calls (Err (halted.Refused fault)) specified s' = specified ≡ Err fault
Agrees calls (Err other) specified s' = Unit {0}

-- What a command or a line does that ends so, where this is what is specified among files. Where the world is reported: that. Of every
-- store and sink: it is done or refused as is specified of the files that the store tells, and where it tells none, of some that might be
-- there; of any, unless it reads a file. If it isn't done, the session is as it was.
pub record CarriesOut {Y : Type 0} (calls : Y → List Bytes) (s : StoreState) (k : SinkState) (old : Session) (reads_no_file : Type 0) (specified : Files → Result (Effect Session) Fault)
    (result : Result Y Halted) (new : Session) (s' : StoreState) (k' : SinkState) : Type 0 where
  pub outcome : Outcome (λ w now. Steps calls result old w (specified w.files) new now) s k (status_of result) s' k'
  pub told : AsTold s.files (λ files. Agrees calls result (specified files) new)
  pub exact : reads_no_file → (files : Files) → Agrees calls result (specified files) new
  pub kept : OnErr result (new ≡ old)

-- ---- one line of a run

-- a refusal is specified, it ends the run whatever was asked for or not, and its line is printed
abbrev pub Refuses : {X : Type 0} → World → ℕ → Bool → Result (Effect X) Fault → World → Type 0
Refuses w line is_last (Ok t) now = ⊥
Refuses w line is_last (Err fault) now = (is_last ≡ passes_limit fault) × (now ≡ sent None (refusal line fault) w)

-- a first part of what the line sends, or of the line of its refusal, is sent, and the session is as it was
abbrev pub PartOfLine : {X : Type 0} → X → World → ℕ → Result (Effect X) Fault → X → World → Type 0
PartOfLine s w line specified s' now = (s' ≡ s) × PartSent (effect_of s line specified).to (effect_of s line specified).bytes w now

-- a line of a run is carried out, or refused with its printed line, or a first part of what it sends is sent
abbrev pub EndsLine : {X : Type 0} → LineEnd → X → World → ℕ → Result (Effect X) Fault → X → World → Type 0
EndsLine (line_end.Done calls) s w line specified s' now = Carries calls w specified s' now
EndsLine (line_end.Refused is_last) s w line specified s' now = (s' ≡ s) × Refuses w line is_last specified now
EndsLine (line_end.Broken how) s w line specified s' now = PartOfLine s w line specified s' now

-- the status of a run that ends with a line that ended so
abbrev pub status_of_line : LineEnd → Status
status_of_line (line_end.Done calls) = status.Done
status_of_line (line_end.Refused is_last) = status.Refused
status_of_line (line_end.Broken broken.SourceFault) = status.SourceFault
status_of_line (line_end.Broken broken.SinkFault) = status.SinkFault
status_of_line (line_end.Broken broken.Memory) = status.Memory

-- ---- one line of a run, over every store

-- a refusal is specified, and it ends the run whatever was asked for, or not
abbrev pub RefusesAs : {X : Type 0} → Bool → Result (Effect X) Fault → Type 0
RefusesAs is_last (Ok t) = ⊥
RefusesAs is_last (Err fault) = is_last ≡ passes_limit fault

-- a line is done or refused as is specified, and otherwise the session is as it was
abbrev pub LineAgrees : {X : Type 0} → LineEnd → Result (Effect X) Fault → X → X → Type 0
LineAgrees (line_end.Done calls) specified s s' = Leaves calls specified s'
LineAgrees (line_end.Refused is_last) specified s s' = (s' ≡ s) × RefusesAs is_last specified
LineAgrees (line_end.Broken how) specified s s' = s' ≡ s

-- What a line of a run does that ends so, where this is what is specified among files. Where the world is reported: that. Of every store
-- and sink: it is done or refused as is specified of the files that the store tells, and where it tells none, of some that might be there;
-- of any, unless it reads a file. If it is broken off, the session is as it was.
pub record RunsLine (s : StoreState) (k : SinkState) (old : Session) (line : ℕ) (reads_no_file : Type 0) (specified : Files → Result (Effect Session) Fault)
    (result : LineEnd) (new : Session) (s' : StoreState) (k' : SinkState) : Type 0 where
  pub outcome : Outcome (λ w now. EndsLine result old w line (specified w.files) new now) s k (status_of_line result) s' k'
  pub told : AsTold s.files (λ files. LineAgrees result (specified files) old new)
  pub exact : reads_no_file → (files : Files) → LineAgrees result (specified files) old new

-- the command of a line, if it has one, is not `read`
abbrev pub OrderReadsNoFile : Result Order Fault → Type 0
OrderReadsNoFile (Ok (order.Step what)) = ReadsNoFile what
OrderReadsNoFile (Ok (order.Do call)) = Unit {0}
OrderReadsNoFile (Err fault) = Unit {0}

abbrev pub LineReadsNoFile : ScriptLine → Type 0
LineReadsNoFile (Plain text) = OrderReadsNoFile (order_of text)
LineReadsNoFile (Define name body) = Unit {0}

-- ---- a run

abbrev pub ReadNoFile : List ScriptLine → Type 0
ReadNoFile lines = AllByRecursion LineReadsNoFile lines

-- What a run does that ends so, where this is the machine's among files. Where the world is reported: that. Of every store and sink: status
-- and session are such as the lines come to, one after another; and they are those that the machine says of any world, or the session is as
-- the lines before the one at which the run was broken off have left it, unless one of the lines reads a file.
pub record RunsOut (s : StoreState) (k : SinkState) (old : Session) (specified : Files → Run Session) (comes_to : Status → Session → Type 0) (answer : Status) (new : Session) (s' : StoreState) (k' : SinkState) : Type 0 where
  pub outcome : Outcome (λ w now. SessionEndsAs (specified w.files) answer old w new now) s k answer s' k'
  pub lines : comes_to answer new
  pub exact : (w : World) → ReadNoFile (specified w.files).ran → (now : World) × SessionEndsAs (specified w.files) answer old w new now
