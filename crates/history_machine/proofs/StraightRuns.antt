-- Runs of scripts that run no macro, and how many turns a run has.
use Rattle.std.proofs.Common.{◌≡◌, ℕ, zero, suc, ◌+◌, ◌≤◌, Bool, true, false, List, [], ◌∷◌, ◌++◌, length, map, Option, Result, Ok, Err, refl, sym, ap, subst, arith}
use Rattle.std.specs.Prelude.{if◌then◌else◌}
use Rattle.std.specs.List.{AllByRecursion}
use Rattle.plain_model.specs.Files.{Files}
use Rattle.plain_model.specs.Paths.{Bytes}
use Rattle.plain_model.specs.declared.fault.Fault.{Fault}
use Rattle.plain_model.specs.declared.status.Status.{Status}
use Rattle.plain_model.specs.declared.status.Status.TheVariants as status
use Rattle.byte_patterns.specs.Judging.{Denial, under}
use Rattle.script_lines.specs.Answering.{◌>>=◌}
use Rattle.script_lines.specs.declared.script.ScriptItem.{ScriptItem}
use Rattle.script_lines.specs.declared.script.ScriptLine.{ScriptLine}
use Rattle.script_lines.specs.declared.script.ScriptLine.TheVariants.{Define, Plain}
use Rattle.script_reader.specs.Commands.{order_of}
use Rattle.script_reader.specs.declared.command.Command.{Command}
use Rattle.script_reader.specs.declared.command.Command.TheVariants as command
use Rattle.script_reader.specs.declared.command.Order.{Order}
use Rattle.script_reader.specs.declared.command.Order.TheVariants as order
use Rattle.history_machine.specs.declared.waiting.Waiting.{Waiting}
use Rattle.history_machine.specs.Machine.{Effect, Run, called_by, effect_of, ended, files_after, first_of, goes_on, others_of, run_on, status_after}
use Rattle.history_machine.specs.Sessions.{Session, Subject, ready}
use Rattle.history_machine.specs.Steps.{carried, changes, line_step, ordered, reports, step}
use Rattle.history_machine.specs.Straight.{AreFirstOf, IsNoCall, RunsNoMacro, lines_of}
use Rattle.history_machine.specs.Whole.{Denials, waiting_of}

-- ---- a command calls no lines

abbrev CallsNothing : Result (Effect Session) Fault → Type 0
CallsNothing (Ok t) = t.calls ≡ []
CallsNothing (Err fault) = Unit {0}

changes_call : (r : Result Session Fault) → CallsNothing (changes r)
changes_call (Ok after) = refl
changes_call (Err fault) = tt

reports_call : (s : Session) (to : Option Bytes) (r : Result Bytes Fault) → CallsNothing (reports s to r)
reports_call s to (Ok bytes) = refl
reports_call s to (Err fault) = tt

carried_calls : (s : Session) (files : Files) (subject : Subject) (what : Command) → CallsNothing (carried s files subject what)
unfolding carried
carried_calls s files subject (command.Read file name) = changes_call _
carried_calls s files subject (command.Write to) = reports_call s to _
carried_calls s files subject (command.Choose name) = changes_call _
carried_calls s files subject command.ShowRepos = refl
carried_calls s files subject (command.Drop name) = changes_call _
carried_calls s files subject command.DropChosen = changes_call _
carried_calls s files subject command.Renumber = changes_call _
carried_calls s files subject (command.Show selection what to) = reports_call s to _
carried_calls s files subject (command.Assign selection name) = changes_call _
carried_calls s files subject (command.Edit selection what) = changes_call _
carried_calls s files subject (command.Expunge words) = changes_call _
carried_calls s files subject (command.EditBy what file) = changes_call _
carried_calls s files subject (command.Graft selection name prune) = changes_call _
carried_calls s files subject (command.Unite names prune) = changes_call _
carried_calls s files subject (command.Divide selection) = changes_call _
carried_calls s files subject (command.Sample count start) = changes_call _
carried_calls s files subject (command.Names to) = reports_call s to _
carried_calls s files subject (command.Summary to) = reports_call s to _

step_calls : (denial : Option Denial) (s : Session) (files : Files) (what : Command) → CallsNothing (step denial s files what)
unfolding step
step_calls denial s files what = go (under denial (ready s what))
  where
    go : (r : Result Subject Fault) → CallsNothing (r >>= λ subject. carried s files subject what)
    go (Ok subject) = carried_calls s files subject what
    go (Err fault) = tt

line_calls : (denial : Option Denial) (s : Session) (files : Files) (depth : ℕ) (what : ScriptLine) → RunsNoMacro what → CallsNothing (line_step denial s files depth what)
unfolding line_step
line_calls denial s files depth (Define name body) none = refl
line_calls denial s files depth (Plain text) none = go (order_of text) none
  where
    go : (r : Result Order Fault) → IsNoCall r → CallsNothing (r >>= ordered denial s files depth)
    go (Ok (order.Step what)) none = step_calls denial s files what
    go (Ok (order.Do call)) none = absurd none
    go (Err fault) none = tt

effect_calls : (s : Session) (line : ℕ) (r : Result (Effect Session) Fault) → CallsNothing r → (effect_of s line r).calls ≡ []
effect_calls s line (Ok t) none = none
effect_calls s line (Err fault) none = refl

-- ---- a run of lines that call none

module _ (keep : Bool) where
  -- those that are carried out are the first
  front : (left : ℕ) (denials : Denials) (so_far : Status) (s : Session) (files : Files) (items : List ScriptItem) → AllByRecursion (λ item. RunsNoMacro item.what) items
      → AreFirstOf (run_on line_step keep left denials so_far s files (map waiting_of items)).ran (lines_of items)
  front left denials so_far s files [] none = ([], refl)
  front zero denials so_far s files (item ∷ items) none = (lines_of (item ∷ items), refl)
  front (suc left) denials so_far s files (item ∷ items) none =
      let r = line_step (first_of denials) s files 0 item.what in
      let t = effect_of s item.line r in
      let more : List Bytes → Run Session = λ calls. run_on line_step keep left (others_of denials) (status_after so_far r) t.session (files_after t.to t.bytes files) (called_by item.line (0 + 1) calls ++ map waiting_of items) in
      let rest = go (goes_on keep r) (more t.calls)
      (subst (λ (calls : List Bytes). AreFirstOf (more calls).ran (lines_of items)) (sym (effect_calls s item.line r (line_calls (first_of denials) s files 0 item.what none.0)))
      (front left (others_of denials) (status_after so_far r) t.session (files_after t.to t.bytes files) items none.1)) in
      (rest.0, ap (λ (lines : List ScriptLine). item.what ∷ lines) rest.1)
    where
      go : (b : Bool) (run : Run Session) → AreFirstOf run.ran (lines_of items) → AreFirstOf (if b then run else ended status.Refused).ran (lines_of items)
      go true run h = h
      go false run h = (lines_of items, refl)

  abbrev IsRefused : Status → Type 0
  IsRefused status.Refused = Unit {0}
  IsRefused other = ⊥

  -- once one is refused, the status says so
  stays_refused : (left : ℕ) (denials : Denials) (s : Session) (files : Files) (lines : List Waiting) → IsRefused (run_on line_step keep left denials status.Refused s files lines).status
  stays_refused left denials s files [] = tt
  stays_refused zero denials s files (w ∷ lines) = tt
  stays_refused (suc left) denials s files (w ∷ lines) = by_result (λ s files lines. stays_refused left (others_of denials) s files lines) (line_step (first_of denials) s files w.depth w.what)
    where
      go : (b : Bool) (run : Run Session) → IsRefused run.status → IsRefused (if b then run else ended status.Refused).status
      go true run h = h
      go false run h = tt

      by_result : ((s : Session) (files : Files) (lines : List Waiting) → IsRefused (run_on line_step keep left (others_of denials) status.Refused s files lines).status) → (r : Result (Effect Session) Fault)
          → IsRefused (if goes_on keep r then run_on line_step keep left (others_of denials) (status_after status.Refused r) (effect_of s w.line r).session
          (files_after (effect_of s w.line r).to (effect_of s w.line r).bytes files) (called_by w.line (w.depth + 1) (effect_of s w.line r).calls ++ lines) else ended status.Refused).status
      by_result later (Ok t) = later t.session (files_after t.to t.bytes files) (called_by w.line (w.depth + 1) t.calls ++ lines)
      by_result later (Err fault) = go (goes_on {X = Session} keep (Err fault)) (run_on line_step keep left (others_of denials) status.Refused s files lines) (later s files lines)

  never_done : (r : Status) → IsRefused r → r ≡ status.Done → ⊥
  never_done r h is = subst IsRefused is h

  -- a run that is done carries out all
  whole : (left : ℕ) (denials : Denials) (s : Session) (files : Files) (items : List ScriptItem) → AllByRecursion (λ item. RunsNoMacro item.what) items
      → (run_on line_step keep left denials status.Done s files (map waiting_of items)).status ≡ status.Done
      → (run_on line_step keep left denials status.Done s files (map waiting_of items)).ran ≡ lines_of items
  whole left denials s files [] none is = refl
  whole zero denials s files (item ∷ items) none is = absurd cc
  whole (suc left) denials s files (item ∷ items) none is =
      ap (λ (lines : List ScriptLine). item.what ∷ lines) (by_result (λ t. whole left (others_of denials) t.session (files_after t.to t.bytes files) items none.1) (line_step (first_of denials) s files 0 item.what) (line_calls (first_of denials) s files 0 item.what none.0) is)
    where
      more : Result (Effect Session) Fault → Run Session
      more r =
          if goes_on keep r then run_on line_step keep left (others_of denials) (status_after status.Done r) (effect_of s item.line r).session
          (files_after (effect_of s item.line r).to (effect_of s item.line r).bytes files) (called_by item.line (0 + 1) (effect_of s item.line r).calls ++ map waiting_of items) else ended status.Refused

      go : (b : Bool) (run : Run Session) → IsRefused run.status → IsRefused (if b then run else ended status.Refused).status
      go true run h = h
      go false run h = tt

      Later : Type 0
      Later = (t : Effect Session) → (run_on line_step keep left (others_of denials) status.Done t.session (files_after t.to t.bytes files) (map waiting_of items)).status ≡ status.Done
          → (run_on line_step keep left (others_of denials) status.Done t.session (files_after t.to t.bytes files) (map waiting_of items)).ran ≡ lines_of items

      by_calls : Later → (t : Effect Session) (calls : List Bytes) → calls ≡ []
          → (run_on line_step keep left (others_of denials) status.Done t.session (files_after t.to t.bytes files) (called_by item.line (0 + 1) calls ++ map waiting_of items)).status ≡ status.Done
          → (run_on line_step keep left (others_of denials) status.Done t.session (files_after t.to t.bytes files) (called_by item.line (0 + 1) calls ++ map waiting_of items)).ran ≡ lines_of items
      by_calls later t [] e is = later t is
      by_calls later t (call ∷ calls) e is = absurd cc

      by_result : Later → (r : Result (Effect Session) Fault) → CallsNothing r → (more r).status ≡ status.Done → (more r).ran ≡ lines_of items
      by_result later (Ok t) calls is = by_calls later t t.calls calls is
      by_result later (Err fault) calls is =
          absurd (never_done (more (Err fault)).status (go (goes_on {X = Session} keep (Err fault)) (run_on line_step keep left (others_of denials) status.Refused s files (map waiting_of items))
          (stays_refused left (others_of denials) s files (map waiting_of items))) is)

  -- how many turns there are
  turns : (left : ℕ) (denials : Denials) (so_far : Status) (s : Session) (files : Files) (lines : List Waiting) → length (run_on line_step keep left denials so_far s files lines).effects ≤ left + 1
  turns left denials so_far s files [] = omega arith
  turns zero denials so_far s files (w ∷ lines) = omega arith
  turns (suc left) denials so_far s files (w ∷ lines) =
      let r = line_step (first_of denials) s files w.depth w.what in
      let t = effect_of s w.line r in
      let more : Run Session = run_on line_step keep left (others_of denials) (status_after so_far r) t.session (files_after t.to t.bytes files) (called_by w.line (w.depth + 1) t.calls ++ lines) in
      let few : length (if goes_on keep r then more else ended status.Refused).effects ≤ left + 1 =
      go (goes_on keep r) more (turns left (others_of denials) (status_after so_far r) t.session (files_after t.to t.bytes files) (called_by w.line (w.depth + 1) t.calls ++ lines)) in
      omega (arith, few)
    where
      go : (b : Bool) (run : Run Session) → length run.effects ≤ left + 1 → length (if b then run else ended status.Refused).effects ≤ left + 1
      go true run h = h
      go false run h = omega arith

pub script_front : (keep : Bool) (left : ℕ) (denials : Denials) (s : Session) (files : Files) (items : List ScriptItem) → AllByRecursion (λ item. RunsNoMacro item.what) items
    → AreFirstOf (run_on line_step keep left denials status.Done s files (map waiting_of items)).ran (lines_of items)
script_front keep left denials s files items none = front keep left denials status.Done s files items none

pub script_whole : (keep : Bool) (left : ℕ) (denials : Denials) (s : Session) (files : Files) (items : List ScriptItem) → AllByRecursion (λ item. RunsNoMacro item.what) items
    → (run_on line_step keep left denials status.Done s files (map waiting_of items)).status ≡ status.Done
    → (run_on line_step keep left denials status.Done s files (map waiting_of items)).ran ≡ lines_of items
script_whole keep left denials s files items none is = whole keep left denials s files items none is

pub run_turns : (keep : Bool) (left : ℕ) (denials : Denials) (s : Session) (files : Files) (items : List ScriptItem)
    → length (run_on line_step keep left denials status.Done s files (map waiting_of items)).effects ≤ left + 1
run_turns keep left denials s files items = turns keep left denials status.Done s files (map waiting_of items)
