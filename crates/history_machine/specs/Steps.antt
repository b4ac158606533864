-- One command, and one line that is run: what a session becomes, and what is sent. (reposurgeon manual, the commands of the same names)
use Rattle.std.specs.Prelude.{ℕ, ◌+◌, List, [], Option, None, Result, Ok, Err}
use Rattle.plain_model.specs.Files.{Files}
use Rattle.plain_model.specs.Paths.{Bytes}
use Rattle.plain_model.specs.Text.{text}
use Rattle.plain_model.specs.declared.fault.Fault.{Fault}
use Rattle.byte_patterns.specs.Judging.{Denial, under}
use Rattle.listing.specs.Listings.{names_text}
use Rattle.listing.specs.Summaries.{summary_text}
use Rattle.script_lines.specs.Answering.{◌>>=◌}
use Rattle.script_lines.specs.declared.script.ScriptLine.{ScriptLine}
use Rattle.script_lines.specs.declared.script.ScriptLine.TheVariants.{Define, Plain}
use Rattle.script_reader.specs.Commands.{order_of}
use Rattle.macro_lines.specs.Macros.{called, with_macro}
use Rattle.script_reader.specs.declared.command.Command.{Command}
use Rattle.script_reader.specs.declared.command.Command.TheVariants as command
use Rattle.script_reader.specs.declared.command.Order.{Order}
use Rattle.script_reader.specs.declared.command.Order.TheVariants as order
use Rattle.history_machine.specs.Machine.{Effect}
use Rattle.history_machine.specs.Sessions.{Session, Subject, after_assign, after_choose, after_drop, after_drop_chosen, after_edit, after_edit_by, after_read, after_renumber, after_sample, of_chosen, ready, remade, repos_text, shown, without_paths}
use Rattle.history_machine.specs.Several.{after_dividing, after_joining, after_uniting, grafted_with, halves_of, united_of}

-- ---- one command

-- the session is another, and nothing is sent
abbrev pub quiet : Session → Effect Session
quiet s = record { session = s; to = None; bytes = []; calls = [] }

-- a text is printed, or is the whole of a file, and the session is the same
abbrev pub sends : Session → Option Bytes → Bytes → Effect Session
sends s to bytes = record { session = s; to = to; bytes = bytes; calls = [] }

-- a change of the session
abbrev pub changes : Result Session Fault → Result (Effect Session) Fault
changes expected = expected >>= λ after. Ok (quiet after)

-- a text that is sent
abbrev pub reports : Session → Option Bytes → Result Bytes Fault → Result (Effect Session) Fault
reports s to expected = expected >>= λ bytes. Ok (sends s to bytes)

-- what a command does with what it speaks of
unfoldable pub carried : Session → Files → Subject → Command → Result (Effect Session) Fault
carried s files subject (command.Read file name) = changes (after_read s files file name)
carried s files subject (command.Write to) = reports s to (of_chosen s (λ repo. text repo.history))
carried s files subject (command.Choose name) = changes (after_choose s name)
carried s files subject command.ShowRepos = reports s None (Ok (repos_text s))
carried s files subject (command.Drop name) = changes (after_drop s name)
carried s files subject command.DropChosen = changes (after_drop_chosen s)
carried s files subject command.Renumber = changes (after_renumber s)
carried s files subject (command.Show selection what to) = reports s to (of_chosen s (shown what subject.ids))
carried s files subject (command.Assign selection name) = changes (after_assign s subject.ids name)
carried s files subject (command.Edit selection what) = changes (after_edit s (remade what subject.ids))
carried s files subject (command.Expunge words) = changes (after_edit s (without_paths subject.matchers))
carried s files subject (command.EditBy what file) = changes (after_edit_by s files what file)
carried s files subject (command.Graft selection name prune) = changes (after_joining s name (λ part. grafted_with prune part subject.ids))
carried s files subject (command.Unite names prune) = changes (after_uniting s names (united_of prune))
carried s files subject (command.Divide selection) = changes (after_dividing s (halves_of subject.ids))
carried s files subject (command.Sample count start) = changes (after_sample s count start)
carried s files subject (command.Names to) = reports s to (of_chosen s (λ repo. names_text repo.history))
carried s files subject (command.Summary to) = reports s to (of_chosen s (λ repo. summary_text repo.name repo.history))

-- a command, of whose patterns one may be refused that the grammar reads
unfoldable pub step : Option Denial → Session → Files → Command → Result (Effect Session) Fault
step denial s files what = under denial (ready s what) >>= λ subject. carried s files subject what

-- ---- one line

-- the session is the same, and these lines are run next
abbrev pub calling : Session → List Bytes → Effect Session
calling s lines = record { session = s; to = None; bytes = []; calls = lines }

-- `define NAME BODY`
abbrev pub defining : Session → Bytes → List Bytes → Session
defining s name body = record s { macros = with_macro name body s.macros }

-- an order, inside so many macros: the body of one more is one deeper
abbrev pub ordered : Option Denial → Session → Files → ℕ → Order → Result (Effect Session) Fault
ordered denial s files depth (order.Step what) = step denial s files what
ordered denial s files depth (order.Do call) = called s.macros call (depth + 1) >>= λ lines. Ok (calling s lines)

-- one line that is run, inside so many macros: a definition, or its order, or why it is none
unfoldable pub line_step : Option Denial → Session → Files → ℕ → ScriptLine → Result (Effect Session) Fault
line_step denial s files depth (Define name body) = Ok (quiet (defining s name body))
line_step denial s files depth (Plain text) = order_of text >>= ordered denial s files depth
