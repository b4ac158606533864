-- What the top call promises, over a store that tells its files and a sink that tells what was written.
use Rattle.std.specs.Prelude.{◌≡◌, ◌≢◌, ℕ, ◌+◌, false, List, ◌∷◌, drop, Option, Some, None, Result, Ok, Err, IfSome}
use Rattle.std.specs.List.{AllByRecursion}
use Rattle.plain_model.specs.declared.status.Status.{Status}
use Rattle.plain_model.specs.declared.status.Status.TheVariants as status
use Rattle.plain_model.specs.Counts.{Rose}
use Rattle.plain_model.specs.Paths.{Bytes}
use Rattle.byte_patterns.specs.Judging.{is_sized}
use Rattle.plain_model.specs.Files.{Files}
use Rattle.plain_model.specs.Text.{text}
use Rattle.shown_laws.specs.Showing.{IsShownBy}
use Rattle.surgeon_store.specs.Outside.{StoreState, SinkState}
use Rattle.plain_model.specs.declared.fault.Fault.{Fault}
use Rattle.plain_model.specs.declared.limit.TheConstants.{MAX_SCRIPT_BYTES}
use Rattle.script_reader.specs.Commands.{order_of}
use Rattle.script_reader.specs.declared.command.Order.{Order}
use Rattle.script_reader.specs.declared.command.Order.TheVariants as order
use Rattle.script_reader.specs.declared.command.Command.TheVariants as command
use Rattle.script_lines.specs.declared.script.ScriptItem.{ScriptItem}
use Rattle.script_lines.specs.declared.script.ScriptLine.{ScriptLine}
use Rattle.script_lines.specs.declared.script.ScriptLine.TheVariants.{Define, Plain}
use Rattle.history_machine.specs.Sessions.{Repo, Session, chosen}
use Rattle.history_machine.specs.Machine.{Completes, EndsAs, Effect}
use Rattle.history_machine.specs.Whole.{Denials, run, script_in, unread_status}
use Rattle.history_machine.specs.Words.{asked}
use Rattle.surgeon_session.specs.Calls.{NoFaults, world}
use Rattle.surgeon_session.specs.Denials.{UnderAll}
use Rattle.surgeon_session.specs.Pieces.{bytes_in}

-- Files and output are those of the machine's run of these words, where of no command a pattern is refused that the grammar reads, or
-- one of each: at its end, with its status, or where a fault of the outside or out of memory broke it off. A size was refused only where
-- their count rose.
abbrev pub AsPrescribed : List Bytes → StoreState → SinkState → ℕ → Status → StoreState → SinkState → ℕ → Type 0
AsPrescribed words s k sizes answer s' k' sizes' =
    UnderAll sizes sizes' (λ denials. IfSome (world s k) (λ w. IfSome (world s' k') (λ now. EndsAs (run denials words w.files) answer w now)))

-- of no command a pattern is refused for its size
abbrev pub AreUnsized : Denials → Type 0
AreUnsized denials = AllByRecursion (λ denial. is_sized denial ≡ false) denials

-- where no count of faults or of sizes rose and memory was there, the run came to its end, and no pattern was refused for its size
abbrev pub Succeeds : List Bytes → StoreState → SinkState → ℕ → Status → StoreState → SinkState → ℕ → Type 0
Succeeds words s k sizes answer s' k' sizes' =
    NoFaults s k s' k' → (Rose sizes sizes' → ⊥) → answer ≢ status.Memory
    → (denials : Denials) × AreUnsized denials
    × IfSome (world s k) (λ w. IfSome (world s' k') (λ now. Completes (run denials words w.files) answer w now))

-- each history that a session holds: what is written of it is a stream by the productions, whose history is written as the
-- same bytes, and a replay of it by plain maps shows what the history shows
abbrev pub AreShown : List Repo → Type 0
AreShown repos = AllByRecursion (λ r. IsShownBy (text r.history) r.history) repos

-- that is so after each command of the run, whether it is done or refused, whatever is refused of its patterns
abbrev pub ShowsHistories : List Bytes → Files → Type 0
ShowsHistories words files = (denials : Denials) → AllByRecursion (λ t. AreShown t.session.repos) (run denials words files).effects

-- Where a repository is chosen, a `write` line sends the text of its history to the file that it names, or prints it; and
-- by that text the history is shown.
abbrev pub IsShownWrite : Result Order Fault → Effect Session → Type 0
IsShownWrite (Ok (order.Step (command.Write to))) t =
    (repo : Repo) → chosen t.session ≡ Ok repo → (t.to ≡ to) × (t.bytes ≡ text repo.history) × IsShownBy t.bytes repo.history
IsShownWrite other t = Unit {0}

-- a definition writes nothing
abbrev pub IsShownLine : ScriptLine → Effect Session → Type 0
IsShownLine (Plain line) t = IsShownWrite (order_of line) t
IsShownLine (Define name body) t = Unit {0}

-- that is so of each line that was carried out
abbrev pub AreShownWrites : List ScriptLine → List (Effect Session) → Type 0
AreShownWrites (what ∷ ran) (t ∷ effects) = IsShownLine what t × AreShownWrites ran effects
AreShownWrites ran effects = Unit {0}

-- and so of each line that the run carries out, those of macros included
abbrev pub ShowsWrites : List Bytes → Files → Type 0
ShowsWrites words files = (denials : Denials) → AreShownWrites (run denials words files).ran (run denials words files).effects

-- how a run ends that tells how the program is called: so, or a fault of printing or out of memory broke it off
abbrev pub IsUsageEnd : Status → Type 0
IsUsageEnd status.Usage = Unit {0}
IsUsageEnd status.SinkFault = Unit {0}
IsUsageEnd status.Memory = Unit {0}
IsUsageEnd other = ⊥

-- the words aren't right exactly where it is reported how the program is called
pub record AnswersWords (words : List Bytes) (answer : Status) : Type 0 where
  pub prescribed : asked words ≡ None → IsUsageEnd answer
  pub only : answer ≡ status.Usage → asked words ≡ None

-- ---- the script

-- how a run ends whose script isn't read: so, or a fault of printing or out of memory broke it off
abbrev pub IsUnreadEnd : Fault → Status → Type 0
IsUnreadEnd why status.NoScript = unread_status why ≡ status.NoScript
IsUnreadEnd why status.BadScript = unread_status why ≡ status.BadScript
IsUnreadEnd why status.SinkFault = Unit {0}
IsUnreadEnd why status.Memory = Unit {0}
IsUnreadEnd why other = ⊥

-- That there is no script, or none that can be read, is answered exactly where that is so; but a fault outside or out of memory may come
-- in its place.
abbrev pub AnswersScript : Result (List ScriptItem) Fault → Status → Type 0
AnswersScript (Ok script) status.NoScript = ⊥
AnswersScript (Ok script) status.BadScript = ⊥
AnswersScript (Ok script) other = Unit {0}
AnswersScript (Err why) status.SourceFault = Unit {0}
AnswersScript (Err why) other = IsUnreadEnd why other

-- the same of the script that the words ask for, where the files are told
abbrev pub AnswersAsked : List Bytes → Option Files → Status → Type 0
AnswersAsked words files answer = IfSome (asked words) (λ what. IfSome files (λ f. AnswersScript (script_in f what.script) answer))

-- of a file that is no script, one byte past the limit is taken at most
abbrev pub StopsPastLimit : Option Bytes → Status → Option Bytes → Type 0
StopsPastLimit file status.BadScript rest = IfSome file (λ bytes. rest ≡ Some (drop (MAX_SCRIPT_BYTES + 1) bytes))
StopsPastLimit file other rest = Unit {0}

-- the same of the script that the words ask for
abbrev pub StopsAsked : List Bytes → StoreState → Status → StoreState → Type 0
StopsAsked words s answer s' = IfSome (asked words) (λ what. StopsPastLimit (bytes_in s.files what.script) answer s'.rest)

-- ---- what is printed

-- a call that only prints: a fault of printing is one whose count rose, and with any other status, unless memory was out, none rose
abbrev pub CausedByPrinting : SinkState → Status → SinkState → Type 0
CausedByPrinting k status.SinkFault k' = Rose k.faults k'.faults
CausedByPrinting k status.Memory k' = Unit {0}
CausedByPrinting k other k' = k'.faults ≡ k.faults
