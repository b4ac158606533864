-- Where a run has come when it answers, over every store and sink, whatever they say of themselves.
use Rattle.std.specs.Prelude.{◌≡◌, ◌⊎◌, ℕ, zero, suc, ◌+◌, ◌++◌, Bool, true, false, List, [], ◌∷◌, Option, Result, map}
use Rattle.plain_model.specs.Files.{Files}
use Rattle.plain_model.specs.declared.fault.Fault.{Fault}
use Rattle.plain_model.specs.declared.limit.TheConstants.{MAX_COMMANDS}
use Rattle.plain_model.specs.declared.status.Status.{Status}
use Rattle.plain_model.specs.declared.status.Status.TheVariants as status
use Rattle.script_lines.specs.declared.script.ScriptItem.{ScriptItem}
use Rattle.script_lines.specs.declared.script.ScriptLine.{ScriptLine}
use Rattle.history_machine.specs.Machine.{Effect, called_by, effect_of, first_of, goes_on, others_of, status_after}
use Rattle.history_machine.specs.Sessions.{Session}
use Rattle.history_machine.specs.Steps.{line_step}
use Rattle.history_machine.specs.Whole.{Denials, waiting_of}
use Rattle.history_machine.specs.declared.waiting.Waiting.{Waiting}

-- a run answers so where a fault of the outside or want of memory breaks it off
abbrev pub IsBrokenOff : Status → Type 0
IsBrokenOff status.SourceFault = Unit {0}
IsBrokenOff status.SinkFault = Unit {0}
IsBrokenOff status.Memory = Unit {0}
IsBrokenOff other = ⊥

-- a run that has come to its end with the first status answers the second: the same, unless it is broken off here
abbrev pub EndsHere : Status → Status → Type 0
EndsHere ends answer = (answer ≡ ends) ⊎ IsBrokenOff answer

-- the one or the other
abbrev pub Either : Bool → Type 0 → Type 0 → Type 0
Either true A B = A
Either false A B = B

module _ {X C : Type 0} (step : Option C → X → Files → ℕ → ScriptLine → Result (Effect X) Fault) (keep_going : Bool) where
  -- Lines are carried out in their order, each done or refused as the machine says of some files, whichever it found, until the run ends
  -- with this status or is broken off. The session is what those lines have left: a line at which the run is broken off changes nothing.
  abbrev pub RunsTo : ℕ → List (Option C) → Status → X → List Waiting → Status → X → Type 0
  RunsTo left outside so_far s [] answer s' = (s' ≡ s) × EndsHere so_far answer
  RunsTo zero outside so_far s (w ∷ ws) answer s' = (s' ≡ s) × EndsHere status.Refused answer
  RunsTo (suc left) outside so_far s (w ∷ ws) answer s' =
      ((s' ≡ s) × IsBrokenOff answer)
      ⊎ ((files : Files) × (
      let done = step (first_of outside) s files w.depth w.what in
      let t = effect_of s w.line done in
      Either (goes_on keep_going done)
      (RunsTo left (others_of outside) (status_after so_far done) t.session (called_by w.line (w.depth + 1) t.calls ++ ws) answer s')
      ((s' ≡ t.session) × (answer ≡ status.Refused))))

-- the same of a script that is run from a session
abbrev pub ScriptRunsTo : Denials → Session → List ScriptItem → Bool → Status → Session → Type 0
ScriptRunsTo denials s items keep_going answer s' = RunsTo line_step keep_going MAX_COMMANDS denials status.Done s (map waiting_of items) answer s'
