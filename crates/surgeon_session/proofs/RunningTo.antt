-- Lines of a run one after another, over every store.
use Rattle.std.proofs.Common.{◌≡◌, ◌⊎◌, inl, inr, ℕ, zero, suc, ◌+◌, List, [], ◌∷◌, ◌++◌, Bool, true, false, Option, Some, None, Result, Ok, Err, refl, sym, subst}
use Rattle.std.specs.Prelude.{◌&&◌, ◌||◌, not}
use Rattle.plain_model.specs.Files.{Files}
use Rattle.plain_model.specs.Paths.{Bytes}
use Rattle.plain_model.specs.declared.fault.Fault.{Fault}
use Rattle.plain_model.specs.declared.status.Status.{Status}
use Rattle.plain_model.specs.declared.status.Status.TheVariants as status
use Rattle.script_lines.specs.declared.script.ScriptLine.{ScriptLine}
use Rattle.history_machine.specs.Machine.{Effect, called_by, effect_of, goes_on, passes_limit, status_after}
use Rattle.history_machine.specs.declared.waiting.Waiting.{Waiting}
use Rattle.surgeon_session.specs.Calls.{AsTold}
use Rattle.surgeon_session.specs.Commands.{LineAgrees, status_of_line}
use Rattle.surgeon_session.specs.RunsTo.{EndsHere, Either, IsBrokenOff, RunsTo}
use Rattle.surgeon_session.specs.Waits.{IsPastEnd}
use Rattle.surgeon_session.specs.declared.line_end.Broken.{Broken}
use Rattle.surgeon_session.specs.declared.line_end.Broken.TheVariants as broken
use Rattle.surgeon_session.specs.declared.line_end.LineEnd.TheVariants as line_end
use Rattle.surgeon_session.proofs.SessionRounds.{off_limit, off_refused, on_refused}

-- ---- what is told

-- what follows of what is told
pub told_so : {A : Type 0} (told : Option A) (P Q : A → Type 0) → ((x : A) → P x → Q x) → AsTold told P → AsTold told Q
told_so (Some x) P Q f h = f x h
told_so None P Q f h = (h.0, f h.0 h.1)

-- there is something of which it is told
pub some_told : {A : Type 0} (told : Option A) (P : A → Type 0) → AsTold told P → (x : A) × P x
some_told (Some x) P h = (x, h)
some_told None P h = h

-- ---- statuses

pub line_breaks_off : (how : Broken) → IsBrokenOff (status_of_line (line_end.Broken how))
line_breaks_off broken.SourceFault = tt
line_breaks_off broken.SinkFault = tt
line_breaks_off broken.Memory = tt

pub past_ends_here : (answer : Status) → IsPastEnd answer → EndsHere status.Refused answer
past_ends_here status.Refused is = inl refl
past_ends_here status.SinkFault is = inr tt
past_ends_here status.Memory is = inr tt
past_ends_here status.SourceFault is = absurd is
past_ends_here status.Done is = absurd is
past_ends_here status.Usage is = absurd is
past_ends_here status.NoScript is = absurd is
past_ends_here status.BadScript is = absurd is

-- ---- lines

-- What a line of a run from here on comes to, where so many more may be run after it.
module _ {X C : Type 0} (step : Option C → X → Files → ℕ → ScriptLine → Result (Effect X) Fault) (keep : Bool) (here : Option C) (more : List (Option C)) (so_far : Status) where
  -- it is broken off at once
  pub runs_nowhere : (left : ℕ) (outside : List (Option C)) (s : X) (lines : List Waiting) (answer : Status) → IsBrokenOff answer → RunsTo step keep left outside so_far s lines answer s
  runs_nowhere left outside s [] answer broken = (refl, inr broken)
  runs_nowhere zero outside s (w ∷ lines) answer broken = (refl, inr broken)
  runs_nowhere (suc left) outside s (w ∷ lines) answer broken = inl (refl, broken)

  -- there is no line
  pub runs_no_further : (left : ℕ) (outside : List (Option C)) (s : X) → RunsTo step keep left outside so_far s [] so_far s
  runs_no_further left outside s = (refl, inl refl)

  -- no more may be run
  pub runs_past : (outside : List (Option C)) (s : X) (next : Waiting) (lines : List Waiting) (answer : Status) → IsPastEnd answer → RunsTo step keep zero outside so_far s (next ∷ lines) answer s
  runs_past outside s next lines answer past = (refl, past_ends_here answer past)

  module _ (left : ℕ) (s s' : X) (next : Waiting) (lines : List Waiting) where
    abbrev found : Files → Result (Effect X) Fault
    found files = step here s files next.depth next.what

    abbrev after_it : Status → X → Result (Effect X) Fault → Type 0
    after_it answer last done =
        let t = effect_of s next.line done in
        Either (goes_on keep done)
        (RunsTo step keep left more (status_after so_far done) t.session (called_by next.line (next.depth + 1) t.calls ++ lines) answer last)
        ((last ≡ t.session) × (answer ≡ status.Refused))

    -- by a line that is done
    pub runs_on_done : (calls : List Bytes) → ((files : Files) × LineAgrees (line_end.Done calls) (found files) s s') → (answer : Status) (last : X)
        → RunsTo step keep left more so_far s' (called_by next.line (next.depth + 1) calls ++ lines) answer last
        → RunsTo step keep (suc left) (here ∷ more) so_far s (next ∷ lines) answer last
    runs_on_done calls agrees answer last h = inr (agrees.0, by_result (found agrees.0) agrees.1)
      where
        by_result : (done : Result (Effect X) Fault) → LineAgrees (line_end.Done calls) done s s' → after_it answer last done
        by_result (Ok t) is =
            subst (λ (x : X). RunsTo step keep left more so_far x (called_by next.line (next.depth + 1) t.calls ++ lines) answer last) is.0
            (subst (λ (texts : List Bytes). RunsTo step keep left more so_far s' (called_by next.line (next.depth + 1) texts ++ lines) answer last) (sym is.1) h)
        by_result (Err fault) is = absurd is

    -- by one that is refused, where that isn't the end
    pub runs_on_refused : (is_last : Bool) → (is_last || not keep) ≡ false → ((files : Files) × LineAgrees (line_end.Refused is_last) (found files) s s') → (answer : Status) (last : X)
        → RunsTo step keep left more status.Refused s' lines answer last
        → RunsTo step keep (suc left) (here ∷ more) so_far s (next ∷ lines) answer last
    runs_on_refused is_last goes agrees answer last h = inr (agrees.0, by_result (found agrees.0) agrees.1)
      where
        by_result : (done : Result (Effect X) Fault) → LineAgrees (line_end.Refused is_last) done s s' → after_it answer last done
        by_result (Ok t) is = absurd is.1
        by_result (Err fault) is =
            subst (λ b. Either b (RunsTo step keep left more status.Refused s lines answer last) ((last ≡ s) × (answer ≡ status.Refused))) (sym (on_refused keep (passes_limit fault) is_last goes is.1))
            (subst (λ (x : X). RunsTo step keep left more status.Refused x lines answer last) is.0 h)

    -- by one that is refused, where that is the end
    pub runs_to_refused : (is_last : Bool) → (is_last || not keep) ≡ true → ((files : Files) × LineAgrees (line_end.Refused is_last) (found files) s s')
        → RunsTo step keep (suc left) (here ∷ more) so_far s (next ∷ lines) status.Refused s'
    runs_to_refused is_last stop agrees = inr (agrees.0, by_result (found agrees.0) agrees.1)
      where
        by_result : (done : Result (Effect X) Fault) → LineAgrees (line_end.Refused is_last) done s s' → after_it status.Refused s' done
        by_result (Ok t) is = absurd is.1
        by_result (Err fault) is =
            subst (λ b. Either b (RunsTo step keep left more status.Refused s lines status.Refused s') ((s' ≡ s) × (status.Refused ≡ status.Refused))) (sym (off_refused keep (passes_limit fault) is_last is.1 stop))
            (is.0, refl)

    -- by one that is refused so, whatever the files are, where that ends each run
    pub runs_to_last : (files : Files) (fault : Fault) → found files ≡ Err fault → passes_limit fault ≡ true → (answer : Status) → IsPastEnd answer
        → RunsTo step keep (suc left) (here ∷ more) so_far s (next ∷ lines) answer s
    runs_to_last files fault is ends answer past = at (past_ends_here answer past)
      where
        at : EndsHere status.Refused answer → RunsTo step keep (suc left) (here ∷ more) so_far s (next ∷ lines) answer s
        at (inl same) = inr (
          files,
          subst (after_it answer s) (sym is)
              (subst (λ b. Either b (RunsTo step keep left more status.Refused s lines answer s) ((s ≡ s) × (answer ≡ status.Refused))) (sym (off_limit keep (passes_limit fault) ends)) (refl, same)),
        )
        at (inr broken) = inl (refl, broken)

    -- by one at which the run is broken off
    pub runs_to_broken : (answer : Status) → IsBrokenOff answer → s' ≡ s → RunsTo step keep (suc left) (here ∷ more) so_far s (next ∷ lines) answer s'
    runs_to_broken answer broken same = inl (same, broken)
