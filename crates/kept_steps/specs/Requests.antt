-- Commands in turn, each done or refused, as a list and as the lines of a run; and what comes by them. (own)
use Rattle.std.specs.Prelude.{◌≡◌, List, [], ◌∷◌, Option, None, Some, Result, Ok, Err}
use Rattle.plain_model.specs.declared.event.PlainEvent.{PlainEvent}
use Rattle.plain_model.specs.declared.fault.Fault.{Fault}
use Rattle.plain_model.specs.Files.{Files}
use Rattle.byte_patterns.specs.Judging.{Denial}
use Rattle.sample_history.specs.Sample.{sample}
use Rattle.script_lines.specs.declared.script.ScriptLine.{ScriptLine}
use Rattle.script_lines.specs.declared.script.ScriptLine.TheVariants.{Define, Plain}
use Rattle.script_reader.specs.Commands.{order_of}
use Rattle.script_reader.specs.declared.command.Command.{Command}
use Rattle.script_reader.specs.declared.command.Command.TheVariants as command
use Rattle.script_reader.specs.declared.command.Order.{Order}
use Rattle.script_reader.specs.declared.command.Order.TheVariants as order
use Rattle.history_machine.specs.Loading.{loaded}
use Rattle.history_machine.specs.Machine.{Effect}
use Rattle.history_machine.specs.Sessions.{Repo, Session, read_repo, sample_name}
use Rattle.history_machine.specs.Steps.{step}
use Rattle.kept_steps.specs.Origins.{Step}

-- ---- a list of commands

-- a command that is asked for among files, of whose patterns one may be refused that the grammar reads
pub record Request : Type 0 where
  pub denial : Option Denial
  pub files : Files
  pub what : Command

-- the session after a command, which is as it was where the command is refused
abbrev pub left_by : Session → Result (Effect Session) Fault → Session
left_by s (Ok t) = t.session
left_by s (Err why) = s

abbrev pub after_request : Session → Request → Session
after_request s asked = left_by s (step asked.denial s asked.files asked.what)

-- the session after some commands
abbrev pub after_requests : Session → List Request → Session
after_requests s [] = s
after_requests s (asked ∷ others) = after_requests (after_request s asked) others

abbrev pub steps_of : Session → List Request → List Step
steps_of s [] = []
steps_of s (asked ∷ others) = record { what = Some asked.what; after = after_request s asked } ∷ steps_of (after_request s asked) others

-- ---- a run

-- the command of an order: a call of a macro is none, its lines are run
abbrev pub command_in : Result Order Fault → Option Command
command_in (Ok (order.Step what)) = Some what
command_in (Ok (order.Do call)) = None
command_in (Err why) = None

abbrev pub command_of : ScriptLine → Option Command
command_of (Plain text) = command_in (order_of text)
command_of (Define name body) = None

-- the lines that were carried out, with what they have left
abbrev pub steps_by : List ScriptLine → List (Effect Session) → List Step
steps_by lines [] = []
steps_by [] (t ∷ effects) = record { what = None; after = t.session } ∷ steps_by [] effects
steps_by (line ∷ lines) (t ∷ effects) = record { what = command_of line; after = t.session } ∷ steps_by lines effects

-- ---- what comes

-- what comes by a command that keeps trees and is done: the history of the file that it reads, or the sample, and nothing by others
abbrev pub IsLoad : Files → Command → List Repo → Type 0
IsLoad files (command.Read file name) come = (history : List PlainEvent) × (loaded files file ≡ Ok history) × (come ≡ read_repo name history ∷ [])
IsLoad files (command.Sample count start) come = come ≡ read_repo sample_name (sample count start) ∷ []
IsLoad files other come = come ≡ []
