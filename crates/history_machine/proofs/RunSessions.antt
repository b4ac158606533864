-- Each session of a run is lawful.
use Rattle.std.proofs.Common.{◌≡◌, ℕ, zero, suc, ◌+◌, ◌++◌, Bool, true, false, List, [], ◌∷◌, Option, Some, None, Result, Ok, Err, refl, map, take, arith}
use Rattle.std.specs.Prelude.{if◌then◌else◌}
use Rattle.std.specs.List.{AllByRecursion}
use Rattle.plain_model.specs.declared.fault.Fault.{Fault}
use Rattle.plain_model.specs.declared.limit.TheConstants.{MAX_COMMANDS}
use Rattle.plain_model.specs.declared.status.Status.{Status}
use Rattle.plain_model.specs.declared.status.Status.TheVariants as status
use Rattle.plain_model.specs.Files.{Files}
use Rattle.plain_model.specs.Paths.{Bytes}
use Rattle.byte_patterns.specs.Judging.{Denial}
use Rattle.script_lines.specs.declared.script.ScriptItem.{ScriptItem}
use Rattle.script_lines.specs.declared.script.ScriptLine.{ScriptLine}
use Rattle.history_machine.specs.declared.waiting.Waiting.{Waiting}
use Rattle.history_machine.specs.Lawful.{IsLawful}
use Rattle.history_machine.specs.Machine.{Effect, Run, called_by, effect_of, ended, files_after, first_of, goes_on, others_of, run_on, session_after, status_after}
use Rattle.history_machine.specs.Sessions.{Session, empty_session}
use Rattle.history_machine.specs.Steps.{line_step}
use Rattle.history_machine.specs.Whole.{Denials, run, run_asked, run_from, run_read, script_in, waiting_of}
use Rattle.history_machine.specs.Words.{Asked, asked}

pub nothing_loaded : IsLawful empty_session
nothing_loaded = record { repos = tt; names = record { few = omega arith; apart = refl; choice = tt } }

-- what each command leaves is lawful
abbrev pub AreLawful : List (Effect Session) → Type 0
AreLawful effects = AllByRecursion (λ (t : Effect Session). IsLawful t.session) effects

-- so it is before each of them, and after the last
after_some : (s : Session) (effects : List (Effect Session)) → IsLawful s → AreLawful effects → (k : ℕ) → IsLawful (session_after s (take k effects))
after_some s effects h all zero = h
after_some s [] h all (suc k) = h
after_some s (t ∷ effects) h all (suc k) = after_some t.session effects all.0 all.1 k

module _ (keeps : (denial : Option Denial) (s : Session) (files : Files) (depth : ℕ) (what : ScriptLine) (t : Effect Session) → line_step denial s files depth what ≡ Ok t → IsLawful s → IsLawful t.session) where
  line_lawful : (denial : Option Denial) (s : Session) (files : Files) (w : Waiting) → IsLawful s → IsLawful (effect_of s w.line (line_step denial s files w.depth w.what)).session
  line_lawful denial s files w h = go (line_step denial s files w.depth w.what) refl
    where
      go : (r : Result (Effect Session) Fault) → line_step denial s files w.depth w.what ≡ r → IsLawful (effect_of s w.line r).session
      go (Ok t) is = keeps denial s files w.depth w.what t is h
      go (Err why) is = h

  cut_or_not : (b : Bool) (more : Run Session) → AreLawful more.effects → AreLawful (if b then more else ended status.Refused).effects
  cut_or_not true more h = h
  cut_or_not false more h = tt

  lines_lawful : (keep : Bool) (left : ℕ) (denials : Denials) (so_far : Status) (s : Session) (files : Files) (lines : List Waiting) → IsLawful s
      → AreLawful (run_on line_step keep left denials so_far s files lines).effects
  lines_lawful keep left denials so_far s files [] h = tt
  lines_lawful keep zero denials so_far s files (w ∷ lines) h = (h, tt)
  lines_lawful keep (suc left) denials so_far s files (w ∷ lines) h =
      let r = line_step (first_of denials) s files w.depth w.what in
      let t = effect_of s w.line r in
      let rest : List Waiting = called_by w.line (w.depth + 1) t.calls ++ lines in
      let lawful = line_lawful (first_of denials) s files w h in (
        lawful,
        cut_or_not (goes_on keep r) (run_on line_step keep left (others_of denials) (status_after so_far r) t.session (files_after t.to t.bytes files) rest)
            (lines_lawful keep left (others_of denials) (status_after so_far r) t.session (files_after t.to t.bytes files) rest lawful),
      )

  pub after_each : (denials : Denials) (s : Session) (files : Files) (items : List ScriptItem) (keep_going : Bool) → IsLawful s → AreLawful (run_from denials s files items keep_going).effects
  after_each denials s files items keep_going h = lines_lawful keep_going MAX_COMMANDS denials status.Done s files (map waiting_of items) h

  pub before_each : (denials : Denials) (s : Session) (files : Files) (items : List ScriptItem) (keep_going : Bool) → IsLawful s → (k : ℕ)
      → IsLawful (session_after s (take k (run_from denials s files items keep_going).effects))
  before_each denials s files items keep_going h k =
      after_some s (run_from denials s files items keep_going).effects h (after_each denials s files items keep_going h) k

  asked_lawful : (denials : Denials) (files : Files) (what : Option Asked) → AreLawful (run_asked denials files what).effects
  asked_lawful denials files None = (nothing_loaded, tt)
  asked_lawful denials files (Some what) = go (script_in files what.script)
    where
      go : (r : Result (List ScriptItem) Fault) → AreLawful (run_read denials what files r).effects
      go (Ok items) = after_each denials empty_session files items what.keep_going nothing_loaded
      go (Err why) = (nothing_loaded, tt)

  pub of_whole : (denials : Denials) (words : List Bytes) (files : Files) → AreLawful (run denials words files).effects
  unfolding run
  of_whole denials words files = asked_lawful denials files (asked words)
