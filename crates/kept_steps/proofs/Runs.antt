-- Lists of commands and runs of lines as steps: each is a command that is done, or changes no repository.
use Rattle.std.proofs.Common.{◌≡◌, ℕ, zero, suc, ◌+◌, Bool, true, false, List, [], ◌∷◌, ◌++◌, length, map, Option, Some, None, Result, Ok, Err, refl, subst, take}
use Rattle.std.proofs.Math.Seq.{take-length}
use Rattle.std.specs.Prelude.{IfSome, IsTrue, if◌then◌else◌}
use Rattle.std.specs.List.{AllByRecursion}
use Rattle.plain_model.specs.declared.fault.Fault.{Fault}
use Rattle.plain_model.specs.declared.limit.TheConstants.{MAX_COMMANDS}
use Rattle.plain_model.specs.declared.status.Status.{Status}
use Rattle.plain_model.specs.declared.status.Status.TheVariants as status
use Rattle.plain_model.specs.Files.{Files}
use Rattle.plain_model.specs.Paths.{Bytes}
use Rattle.byte_patterns.specs.Judging.{Denial}
use Rattle.commit_laws.proofs.Given.{all_take}
use Rattle.script_lines.specs.Answering.{◌>>=◌}
use Rattle.script_lines.specs.declared.script.ScriptItem.{ScriptItem}
use Rattle.script_lines.specs.declared.script.ScriptLine.{ScriptLine}
use Rattle.script_lines.specs.declared.script.ScriptLine.TheVariants.{Define, Plain}
use Rattle.script_reader.specs.Commands.{IsSpelledCommand, order_of}
use Rattle.macro_lines.specs.Macros.{called}
use Rattle.script_reader.specs.declared.command.Command.{Command}
use Rattle.script_reader.specs.declared.command.Order.{Order}
use Rattle.script_reader.specs.declared.command.Order.TheVariants as order
use Rattle.history_machine.specs.declared.waiting.Waiting.{Waiting}
use Rattle.history_machine.specs.Lawful.{IsLawful}
use Rattle.history_machine.specs.Machine.{Effect, Run, called_by, effect_of, ended, files_after, first_of, goes_on, others_of, run_on, session_after, status_after}
use Rattle.history_machine.specs.Sessions.{Session, empty_session}
use Rattle.history_machine.specs.Steps.{calling, line_step, ordered, step}
use Rattle.history_machine.specs.Whole.{Denials, only_prints, run, run_asked, run_from, run_read, script_in, unread_line, unread_status, usage, waiting_of}
use Rattle.history_machine.specs.Words.{Asked, asked}
use Rattle.kept_steps.specs.Keeping.{line_passes, order_passes}
use Rattle.kept_steps.specs.Origins.{Step}
use Rattle.kept_steps.specs.Requests.{Request, after_request, after_requests, command_in, command_of, left_by, steps_by, steps_of}

-- ---- steps

-- a command that passes, and is done
pub record IsCommand (test : Command → Bool) (s : Session) (one : Step) : Type 0 where
  pub denial : Option Denial
  pub files : Files
  pub what : Command
  pub effect : Effect Session
  pub is : one.what ≡ Some what
  pub passes : test what ≡ true
  pub done : step denial s files what ≡ Ok effect
  pub after : one.after ≡ effect.session

-- nothing is done, or nothing is asked for and no repository changes, or a command is done
pub data IsDone (test : Command → Bool) (s : Session) (one : Step) : Type 0 where
  not_done : one.after ≡ s → IsDone test s one
  not_asked : one.what ≡ None → one.after.repos ≡ s.repos → IsDone test s one
  command_done : IsCommand test s one → IsDone test s one

abbrev pub AreSteps : (Command → Bool) → Session → List Step → Type 0
AreSteps test s [] = Unit {0}
AreSteps test s (one ∷ others) = IsDone test s one × IsLawful one.after × AreSteps test one.after others

-- the session after them
abbrev pub last : Session → List Step → Session
last s [] = s
last s (one ∷ others) = last one.after others

-- each command passes, done or not
abbrev pub AllPass : (Command → Bool) → List Step → Type 0
AllPass test steps = AllByRecursion (λ (one : Step). IfSome one.what (λ what. IsTrue (test what))) steps

-- ---- what passes

pub requests_pass : (test : Command → Bool) (s : Session) (asked : List Request) → AllByRecursion (λ one. IsTrue (test one.what)) asked → AllPass test (steps_of s asked)
requests_pass test s [] h = tt
requests_pass test s (one ∷ others) h = (h.0, requests_pass test (after_request s one) others h.1)

order_pass : (test : Command → Bool) (r : Result Order Fault) → order_passes test r ≡ true → IfSome (command_in r) (λ what. IsTrue (test what))
order_pass test (Ok (order.Step what)) h = h
order_pass test (Ok (order.Do call)) h = tt
order_pass test (Err why) h = tt

line_pass : (test : Command → Bool) (line : ScriptLine) → line_passes test line ≡ true → IfSome (command_of line) (λ what. IsTrue (test what))
line_pass test (Plain text) h = order_pass test (order_of text) h
line_pass test (Define name body) h = tt

none_pass : (test : Command → Bool) (effects : List (Effect Session)) → AllPass test (steps_by [] effects)
none_pass test [] = tt
none_pass test (t ∷ effects) = (tt, none_pass test effects)

pub lines_pass : (test : Command → Bool) (k : ℕ) (lines : List ScriptLine) (effects : List (Effect Session)) → AllByRecursion (λ line. IsTrue (line_passes test line)) (take k lines)
    → AllPass test (steps_by lines (take k effects))
lines_pass test zero lines effects h = tt
lines_pass test (suc k) lines [] h = tt
lines_pass test (suc k) [] (t ∷ effects) h = (tt, none_pass test (take k effects))
lines_pass test (suc k) (line ∷ lines) (t ∷ effects) h = (line_pass test line h.0, lines_pass test k lines effects h.1)

pub all_lines_pass : (test : Command → Bool) (lines : List ScriptLine) (effects : List (Effect Session)) → AllByRecursion (λ line. IsTrue (line_passes test line)) lines → AllPass test (steps_by lines effects)
all_lines_pass test lines effects h =
    subst (λ (those : List (Effect Session)). AllPass test (steps_by lines those)) (take-length effects)
    (lines_pass test (length effects) lines effects (all_take (λ line. IsTrue (line_passes test line)) (length effects) lines h))

-- ---- where they end

pub requests_end : (s : Session) (asked : List Request) → last s (steps_of s asked) ≡ after_requests s asked
requests_end s [] = refl
requests_end s (one ∷ others) = requests_end (after_request s one) others

pub effects_end : (s : Session) (lines : List ScriptLine) (effects : List (Effect Session)) → last s (steps_by lines effects) ≡ session_after s effects
effects_end s lines [] = refl
effects_end s [] (t ∷ effects) = effects_end t.session [] effects
effects_end s (line ∷ lines) (t ∷ effects) = effects_end t.session lines effects

-- ---- each command

pub requests_any : (asked : List Request) → AllByRecursion (λ (one : Request). IsTrue true) asked
requests_any [] = tt
requests_any (one ∷ others) = (refl, requests_any others)

order_any : (r : Result Order Fault) → order_passes (λ what. true) r ≡ true
order_any (Ok (order.Step what)) = refl
order_any (Ok (order.Do call)) = refl
order_any (Err why) = refl

line_any : (line : ScriptLine) → line_passes (λ what. true) line ≡ true
line_any (Plain text) = order_any (order_of text)
line_any (Define name body) = refl

pub lines_any : (lines : List ScriptLine) → AllByRecursion (λ line. IsTrue (line_passes (λ what. true) line)) lines
lines_any [] = tt
lines_any (line ∷ lines) = (line_any line, lines_any lines)

module _
    (test : Command → Bool)
    (step_lawful : (denial : Option Denial) (s : Session) (files : Files) (what : Command) (t : Effect Session) → step denial s files what ≡ Ok t → IsLawful s → IsSpelledCommand what
    → IsLawful t.session)
    (line_lawful : (denial : Option Denial) (s : Session) (files : Files) (depth : ℕ) (what : ScriptLine) (t : Effect Session) → line_step denial s files depth what ≡ Ok t → IsLawful s
    → IsLawful t.session)
  where
    -- ---- lists of commands

    request_is : (s : Session) (one : Request) → IsLawful s → IsSpelledCommand one.what → test one.what ≡ true
        → IsDone test s (record { what = Some one.what; after = after_request s one }) × IsLawful (after_request s one)
    request_is s one lawful spelled passes = go (step one.denial s one.files one.what) refl
      where
        go : (r : Result (Effect Session) Fault) → step one.denial s one.files one.what ≡ r → IsDone test s (record { what = Some one.what; after = left_by s r }) × IsLawful (left_by s r)
        go (Ok t) is = (
          command_done (record { denial = one.denial; files = one.files; what = one.what; effect = t; is = refl; passes = passes; done = is; after = refl }),
          step_lawful one.denial s one.files one.what t is lawful spelled,
        )
        go (Err why) is = (not_done refl, lawful)

    pub requests_are : (s : Session) (asked : List Request) → IsLawful s → AllByRecursion (λ one. IsSpelledCommand one.what) asked → AllByRecursion (λ one. IsTrue (test one.what)) asked
        → AreSteps test s (steps_of s asked)
    requests_are s [] lawful spelled passes = tt
    requests_are s (one ∷ others) lawful spelled passes =
        let its = request_is s one lawful spelled.0 passes.0 in
        (its.0, its.1, requests_are (after_request s one) others its.1 spelled.1 passes.1)

    -- ---- runs

    order_is : (denial : Option Denial) (s : Session) (files : Files) (depth line : ℕ) (r : Result Order Fault) → order_passes test r ≡ true
        → IsDone test s (record { what = command_in r; after = (effect_of s line (r >>= ordered denial s files depth)).session })
    order_is denial s files depth line (Err why) passes = not_done refl
    order_is denial s files depth line (Ok (order.Step what)) passes = go (step denial s files what) refl
      where
        go : (r : Result (Effect Session) Fault) → step denial s files what ≡ r → IsDone test s (record { what = Some what; after = (effect_of s line r).session })
        go (Ok t) is = command_done (record { denial = denial; files = files; what = what; effect = t; is = refl; passes = passes; done = is; after = refl })
        go (Err why) is = not_done refl
    order_is denial s files depth line (Ok (order.Do call)) passes = go (called s.macros call (depth + 1))
      where
        go : (r : Result (List Bytes) Fault) → IsDone test s (record { what = None; after = (effect_of s line (r >>= λ lines. Ok (calling s lines))).session })
        go (Ok lines) = not_done refl
        go (Err why) = not_done refl

    line_is : (denial : Option Denial) (s : Session) (files : Files) (line depth : ℕ) (what : ScriptLine) → line_passes test what ≡ true
        → IsDone test s (record { what = command_of what; after = (effect_of s line (line_step denial s files depth what)).session })
    unfolding line_step
    line_is denial s files line depth (Plain text) passes = order_is denial s files depth line (order_of text) passes
    line_is denial s files line depth (Define name body) passes = not_asked refl refl

    effect_lawful : (denial : Option Denial) (s : Session) (files : Files) (line depth : ℕ) (what : ScriptLine) → IsLawful s
        → IsLawful (effect_of s line (line_step denial s files depth what)).session
    effect_lawful denial s files line depth what lawful = go (line_step denial s files depth what) refl
      where
        go : (r : Result (Effect Session) Fault) → line_step denial s files depth what ≡ r → IsLawful (effect_of s line r).session
        go (Ok t) is = line_lawful denial s files depth what t is lawful
        go (Err why) is = lawful

    -- so many of its first lines, if these pass
    abbrev PartIs : Session → Run Session → ℕ → Type 0
    PartIs s run k = AllByRecursion (λ line. IsTrue (line_passes test line)) (take k run.ran) → AreSteps test s (steps_by run.ran (take k run.effects))

    nothing_is : (s : Session) (k : ℕ) → AreSteps test s (steps_by [] (take k []))
    nothing_is s zero = tt
    nothing_is s (suc k) = tt

    cut_is : (s : Session) (b : Bool) (more : Run Session) (ends : Status) (k : ℕ) → PartIs s more k → PartIs s (if b then more else ended ends) k
    cut_is s true more ends k h = h
    cut_is s false more ends k h = λ passes. nothing_is s k

    lines_are : (keep : Bool) (most : ℕ) (denials : Denials) (ends : Status) (s : Session) (files : Files) (lines : List Waiting) → IsLawful s → (k : ℕ)
        → PartIs s (run_on line_step keep most denials ends s files lines) k
    lines_are keep most denials ends s files [] lawful k = λ passes. nothing_is s k
    lines_are keep zero denials ends s files (w ∷ lines) lawful zero = λ passes. tt
    lines_are keep zero denials ends s files (w ∷ lines) lawful (suc k) = λ passes. (not_done refl, lawful, nothing_is s k)
    lines_are keep (suc most) denials ends s files (w ∷ lines) lawful zero = λ passes. tt
    lines_are keep (suc most) denials ends s files (w ∷ lines) lawful (suc k) = λ passes.
        let r = line_step (first_of denials) s files w.depth w.what in
        let t = effect_of s w.line r in
        let rest : List Waiting = called_by w.line (w.depth + 1) t.calls ++ lines in
        let after = run_on line_step keep most (others_of denials) (status_after ends r) t.session (files_after t.to t.bytes files) rest in
        let lawful_then = effect_lawful (first_of denials) s files w.line w.depth w.what lawful in (
          line_is (first_of denials) s files w.line w.depth w.what passes.0,
          lawful_then,
          cut_is t.session (goes_on keep r) after status.Refused k
              (lines_are keep most (others_of denials) (status_after ends r) t.session (files_after t.to t.bytes files) rest lawful_then k) passes.1,
        )

    items_are : (denials : Denials) (s : Session) (files : Files) (items : List ScriptItem) (keep_going : Bool) → IsLawful s → (k : ℕ) → PartIs s (run_from denials s files items keep_going) k
    items_are denials s files items keep_going lawful k = lines_are keep_going MAX_COMMANDS denials status.Done s files (map waiting_of items) lawful k

    -- all of them
    all_are : (s : Session) (run : Run Session) → ((k : ℕ) → PartIs s run k) → AllByRecursion (λ line. IsTrue (line_passes test line)) run.ran → AreSteps test s (steps_by run.ran run.effects)
    all_are s run part passes =
        subst (λ (effects : List (Effect Session)). AreSteps test s (steps_by run.ran effects)) (take-length run.effects)
        (part (length run.effects) (all_take (λ line. IsTrue (line_passes test line)) (length run.effects) run.ran passes))

    pub script_is : (denials : Denials) (s : Session) (files : Files) (items : List ScriptItem) (keep_going : Bool) → IsLawful s
        → AllByRecursion (λ line. IsTrue (line_passes test line)) (run_from denials s files items keep_going).ran
        → AreSteps test s (steps_by (run_from denials s files items keep_going).ran (run_from denials s files items keep_going).effects)
    script_is denials s files items keep_going lawful = all_are s (run_from denials s files items keep_going) (items_are denials s files items keep_going lawful)

    -- a run that only prints
    print_is : IsLawful empty_session → (ends : Status) (line : Bytes) (k : ℕ) → PartIs empty_session (only_prints ends line) k
    print_is lawful ends line zero = λ passes. tt
    print_is lawful ends line (suc k) = λ passes. (not_done refl, lawful, nothing_is empty_session k)

    asked_is : (denials : Denials) (files : Files) (what : Option Asked) → IsLawful empty_session → (k : ℕ) → PartIs empty_session (run_asked denials files what) k
    asked_is denials files None lawful k = print_is lawful status.Usage usage k
    asked_is denials files (Some what) lawful k = go (script_in files what.script)
      where
        go : (r : Result (List ScriptItem) Fault) → PartIs empty_session (run_read denials what files r) k
        go (Ok items) = items_are denials empty_session files items what.keep_going lawful k
        go (Err why) = print_is lawful (unread_status why) (unread_line what.script (unread_status why) why) k

    pub part_is : IsLawful empty_session → (denials : Denials) (words : List Bytes) (files : Files) (k : ℕ) → PartIs empty_session (run denials words files) k
    unfolding run
    part_is lawful denials words files k = asked_is denials files (asked words) lawful k

    pub run_is : IsLawful empty_session → (denials : Denials) (words : List Bytes) (files : Files) → AllByRecursion (λ line. IsTrue (line_passes test line)) (run denials words files).ran
        → AreSteps test empty_session (steps_by (run denials words files).ran (run denials words files).effects)
    run_is lawful denials words files = all_are empty_session (run denials words files) (part_is lawful denials words files)
