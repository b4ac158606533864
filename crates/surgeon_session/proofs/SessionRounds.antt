-- One line of a run over a session, and what is after it.
use Rattle.std.proofs.Common.{◌≡◌, ℕ, zero, suc, ◌+◌, ◌≤◌, List, [], ◌∷◌, ◌++◌, Bool, true, false, Option, None, Result, Ok, Err, refl, sym, subst, arith}
use Rattle.std.specs.Prelude.{◌&&◌, ◌||◌, not, map, if◌then◌else◌}
use Rattle.plain_model.specs.Faults.{refusal}
use Rattle.plain_model.specs.Files.{Files}
use Rattle.plain_model.specs.Paths.{Bytes}
use Rattle.history_machine.specs.Machine.{World, Effect, Run, after, BreaksAfter, PartSent, SessionBreaks, SessionEndsAs, called_by, ended, passes_limit, past, effect_of, goes_on, sent, status_after, with_first, run_on, files_after}
use Rattle.history_machine.specs.declared.waiting.Waiting.{Waiting}
use Rattle.plain_model.specs.declared.fault.Fault.{Fault}
use Rattle.plain_model.specs.declared.status.Status.{Status}
use Rattle.plain_model.specs.declared.status.Status.TheVariants as status
use Rattle.script_lines.specs.declared.script.ScriptItem.{ScriptItem}
use Rattle.script_lines.specs.declared.script.ScriptLine.{ScriptLine}
use Rattle.history_machine.specs.Whole.{waiting_of}
use Rattle.history_machine.proofs.Runs.{IsBreak}
use Rattle.surgeon_session.specs.Calls.{Caused, NoneFailed}
use Rattle.surgeon_session.specs.Commands.{Carries, EndsLine, LineAgrees, LineReadsNoFile, ReadNoFile, Refuses, status_of_line}
use Rattle.surgeon_session.specs.declared.line_end.Broken.{Broken}
use Rattle.surgeon_session.specs.declared.line_end.Broken.TheVariants as broken
use Rattle.surgeon_session.specs.declared.line_end.LineEnd.{LineEnd}
use Rattle.surgeon_session.specs.declared.line_end.LineEnd.TheVariants as line_end
use Rattle.surgeon_session.specs.Waits.{AreWithin, EndsPast, IsPastEnd}
use Rattle.surgeon_session.proofs.Rounds.{no_part}
use Rattle.surgeon_store.specs.Outside.{StoreState, SinkState}

session_first : {X : Type 0} (what : ScriptLine) (t : Effect X) (run : Run X) (r : Status) (s s' : X) (w now : World)
    → SessionEndsAs run r t.session (after w t) s' now → SessionEndsAs (with_first what t run) r s w s' now
session_first what t run status.SourceFault s s' w now h = (suc h.0, h.1, h.2)
session_first what t run status.SinkFault s s' w now h = (suc h.0, h.1, h.2)
session_first what t run status.Memory s s' w now h = (suc h.0, h.1, h.2)
session_first what t run status.Done s s' w now h = h
session_first what t run status.Refused s s' w now h = h
session_first what t run status.Usage s s' w now h = h
session_first what t run status.NoScript s s' w now h = h
session_first what t run status.BadScript s s' w now h = h

session_broken : {X : Type 0} (run : Run X) (r : Status) (s s' : X) (w now : World) → IsBreak r → SessionBreaks run s w s' now → SessionEndsAs run r s w s' now
session_broken run status.SourceFault s s' w now b h = h
session_broken run status.SinkFault s s' w now b h = h
session_broken run status.Memory s s' w now b h = h
session_broken run status.Done s s' w now b h = absurd b
session_broken run status.Refused s s' w now b h = absurd b
session_broken run status.Usage s s' w now b h = absurd b
session_broken run status.NoScript s s' w now b h = absurd b
session_broken run status.BadScript s s' w now b h = absurd b

-- a run without further lines
pub no_lines : {X : Type 0} (r : Status) (s : X) (w : World) → SessionEndsAs {X = X} (ended r) r s w s w
no_lines status.SourceFault s w = (zero, refl, refl)
no_lines status.SinkFault s w = (zero, refl, refl)
no_lines status.Memory s w = (zero, refl, refl)
no_lines status.Done s w = (refl, (refl, refl))
no_lines status.Refused s w = (refl, (refl, refl))
no_lines status.Usage s w = (refl, (refl, refl))
no_lines status.NoScript s w = (refl, (refl, refl))
no_lines status.BadScript s w = (refl, (refl, refl))

-- a status of a run that can go on
abbrev pub IsQuiet : Status → Type 0
IsQuiet status.Done = Unit {0}
IsQuiet status.Refused = Unit {0}
IsQuiet status.SourceFault = ⊥
IsQuiet status.SinkFault = ⊥
IsQuiet status.Memory = ⊥
IsQuiet status.Usage = ⊥
IsQuiet status.NoScript = ⊥
IsQuiet status.BadScript = ⊥

pub caused_quiet : (s s' : StoreState) (k k' : SinkState) (r : Status) → IsQuiet r → NoneFailed s k s' k' → Caused s k r s' k'
caused_quiet s s' k k' status.Done q well = well
caused_quiet s s' k k' status.Refused q well = well
caused_quiet s s' k k' status.SourceFault q well = absurd q
caused_quiet s s' k k' status.SinkFault q well = absurd q
caused_quiet s s' k k' status.Memory q well = absurd q
caused_quiet s s' k k' status.Usage q well = absurd q
caused_quiet s s' k k' status.NoScript q well = absurd q
caused_quiet s s' k k' status.BadScript q well = absurd q

-- nothing of what comes next is sent
pub breaks_here : {X : Type 0} (ts : List (Effect X)) (w : World) → BreaksAfter zero ts w w
breaks_here [] w = refl
breaks_here (t ∷ ts) w = no_part t.to t.bytes w

-- a refusal at which the run ends
pub off_refused : (keep limit is_last : Bool) → is_last ≡ limit → (is_last || not keep) ≡ true → (keep && not limit) ≡ false
off_refused false limit is_last same stop = refl
off_refused true true is_last same stop = refl
off_refused true false true same stop = absurd cc
off_refused true false false same stop = absurd cc

-- a refusal after which the run goes on
pub on_refused : (keep limit is_last : Bool) → (is_last || not keep) ≡ false → is_last ≡ limit → (keep && not limit) ≡ true
on_refused true false false g e = refl
on_refused true true false g e = absurd cc
on_refused true limit true g e = absurd cc
on_refused false limit true g e = absurd cc
on_refused false limit false g e = absurd cc

-- a refusal by a limit of runs, after which no run goes on
pub off_limit : (keep limit : Bool) → limit ≡ true → (keep && not limit) ≡ false
off_limit false limit is = refl
off_limit true true is = refl
off_limit true false is = absurd cc

-- A run from here on, of which a first line is taken out to which this comes, where so many more may be run.
module _ {X C : Type 0} (step : Option C → X → Files → ℕ → ScriptLine → Result (Effect X) Fault) (keep : Bool) (left : ℕ) (here : Option C) (more : List (Option C)) (so_far : Status) (s s' : X) (w now : World)
    (next : Waiting) (lines : List Waiting)
  where
    abbrev does : Result (Effect X) Fault
    does = step here s w.files next.depth next.what

    -- the run, by what the first line does
    abbrev from : Result (Effect X) Fault → Run X
    from specified =
        let t = effect_of s next.line specified in
        with_first next.what t (
        if goes_on keep specified
        then run_on step keep left more (status_after so_far specified) t.session (files_after t.to t.bytes w.files) (called_by next.line (next.depth + 1) t.calls ++ lines)
        else ended status.Refused)

    abbrev whole : Run X
    whole = run_on step keep (suc left) (here ∷ more) so_far s w.files (next ∷ lines)

    -- it goes on after a line that is done
    pub done_goes_on : (calls : List Bytes) → Carries calls w does s' now
        → (r : Status) (s'' : X) (last : World)
        → SessionEndsAs (run_on step keep left more so_far s' now.files (called_by next.line (next.depth + 1) calls ++ lines)) r s' now s'' last
        → SessionEndsAs whole r s w s'' last
    done_goes_on calls carried r s'' last h = at does refl carried
      where
        at : (specified : Result (Effect X) Fault) → does ≡ specified → Carries calls w specified s' now → SessionEndsAs whole r s w s'' last
        at (Ok t) e c =
            let rest : List Bytes → List Waiting = λ texts. called_by next.line (next.depth + 1) texts ++ lines in
            subst (λ specified. SessionEndsAs (from specified) r s w s'' last) (sym e)
            (session_first next.what t (run_on step keep left more so_far t.session (after w t).files (rest t.calls)) r s s'' w last
            (subst (λ (x : X). SessionEndsAs (run_on step keep left more so_far x (after w t).files (rest t.calls)) r x (after w t) s'' last) c.0
            (subst (λ (v : World). SessionEndsAs (run_on step keep left more so_far s' v.files (rest t.calls)) r s' v s'' last) c.1
            (subst (λ (texts : List Bytes). SessionEndsAs (run_on step keep left more so_far s' now.files (rest texts)) r s' now s'' last) (sym c.2) h))))
        at (Err fault) e c = absurd c

    -- it goes on after a refusal
    pub refused_goes_on : (is_last : Bool) → (is_last || not keep) ≡ false → (s' ≡ s) × Refuses w next.line is_last does now
        → (r : Status) (s'' : X) (last : World) → SessionEndsAs (run_on step keep left more status.Refused s' now.files lines) r s' now s'' last
        → SessionEndsAs whole r s w s'' last
    refused_goes_on is_last goes refused r s'' last h = at does refl refused.1
      where
        at : (specified : Result (Effect X) Fault) → does ≡ specified → Refuses w next.line is_last specified now → SessionEndsAs whole r s w s'' last
        at (Ok t) e c = absurd c
        at (Err fault) e c =
            let t = effect_of s next.line (Err fault) in
            subst (λ specified. SessionEndsAs (from specified) r s w s'' last) (sym e)
            (subst (λ b. SessionEndsAs (with_first next.what t (if b then run_on step keep left more status.Refused s w.files lines else ended status.Refused)) r s w s'' last) (sym (on_refused keep (passes_limit fault) is_last goes c.0))
            (session_first next.what t (run_on step keep left more status.Refused s w.files lines) r s s'' w last
            (subst (λ (x : X). SessionEndsAs (run_on step keep left more status.Refused x w.files lines) r x (after w t) s'' last) refused.0
            (subst (λ (v : World). SessionEndsAs (run_on step keep left more status.Refused s' v.files lines) r s' v s'' last) c.1 h))))

    -- it ends with a refusal
    pub refused_stops : (is_last : Bool) → (is_last || not keep) ≡ true → (s' ≡ s) × Refuses w next.line is_last does now
        → SessionEndsAs whole status.Refused s w s' now
    refused_stops is_last stop refused = at does refl refused.1
      where
        at : (specified : Result (Effect X) Fault) → does ≡ specified → Refuses w next.line is_last specified now → SessionEndsAs whole status.Refused s w s' now
        at (Ok t) e c = absurd c
        at (Err fault) e c =
            let t = effect_of s next.line (Err fault) in
            subst (λ specified. SessionEndsAs (from specified) status.Refused s w s' now) (sym e)
            (subst (λ b. SessionEndsAs (with_first next.what t (if b then run_on step keep left more status.Refused s w.files lines else ended status.Refused)) status.Refused s w s' now) (sym (off_refused keep (passes_limit fault) is_last c.0 stop))
            (refused.0, (refl, c.1)))

    -- it breaks off in the line
    pub line_breaks : (r : Status) → IsBreak r → (s' ≡ s) × PartSent (effect_of s next.line does).to (effect_of s next.line does).bytes w now
        → SessionEndsAs whole r s w s' now
    line_breaks r b h = session_broken whole r s s' w now b (zero, h.0, h.1)

    -- it breaks off after the line, since memory is out for what is run next
    pub memory_after : (calls : List Bytes) → Carries calls w does s' now → SessionEndsAs whole status.Memory s w s' now
    memory_after calls carried = at does refl carried
      where
        at : (specified : Result (Effect X) Fault) → does ≡ specified → Carries calls w specified s' now → SessionEndsAs whole status.Memory s w s' now
        at (Ok t) e c =
            subst (λ specified. SessionEndsAs (from specified) status.Memory s w s' now) (sym e) (
              suc zero,
              c.0,
              subst (BreaksAfter zero (run_on step keep left more so_far t.session (after w t).files (called_by next.line (next.depth + 1) t.calls ++ lines)).effects (after w t)) (sym c.1)
                  (breaks_here (run_on step keep left more so_far t.session (after w t).files (called_by next.line (next.depth + 1) t.calls ++ lines)).effects (after w t)),
            )
        at (Err fault) e c = absurd c

    -- ---- where no line reads a file

    -- of such a run this line reads none
    pub first_reads_none : ReadNoFile whole.ran → LineReadsNoFile next.what
    first_reads_none none = none.0

    -- nor do those after a line that is done
    pub done_reads_none : (calls : List Bytes) → Carries calls w does s' now → ReadNoFile whole.ran
        → ReadNoFile (run_on step keep left more so_far s' now.files (called_by next.line (next.depth + 1) calls ++ lines)).ran
    done_reads_none calls carried none = at does refl carried none.1
      where
        rest : List Bytes → List Waiting
        rest texts = called_by next.line (next.depth + 1) texts ++ lines

        at : (specified : Result (Effect X) Fault) → does ≡ specified → Carries calls w specified s' now
            → ReadNoFile (if goes_on keep does then run_on step keep left more (status_after so_far does) (effect_of s next.line does).session (files_after (effect_of s next.line does).to (effect_of s next.line does).bytes w.files)
            (rest (effect_of s next.line does).calls) else ended status.Refused).ran
            → ReadNoFile (run_on step keep left more so_far s' now.files (rest calls)).ran
        at (Ok t) e c h =
            let here = subst (λ (r : Result (Effect X) Fault). ReadNoFile (if goes_on keep r then run_on step keep left more (status_after so_far r) (effect_of s next.line r).session
            (files_after (effect_of s next.line r).to (effect_of s next.line r).bytes w.files) (rest (effect_of s next.line r).calls) else ended status.Refused).ran) e h in
            subst (λ (texts : List Bytes). ReadNoFile (run_on step keep left more so_far s' now.files (rest texts)).ran) c.2
            (subst (λ (v : World). ReadNoFile (run_on step keep left more so_far s' v.files (rest t.calls)).ran) (sym c.1)
            (subst (λ (x : X). ReadNoFile (run_on step keep left more so_far x (after w t).files (rest t.calls)).ran) (sym c.0) here))
        at (Err fault) e c h = absurd c

    -- nor those after a refusal
    pub refused_reads_none : (is_last : Bool) → (is_last || not keep) ≡ false → (s' ≡ s) × Refuses w next.line is_last does now → ReadNoFile whole.ran
        → ReadNoFile (run_on step keep left more status.Refused s' now.files lines).ran
    refused_reads_none is_last goes refused none = at does refl refused.1 none.1
      where
        at : (specified : Result (Effect X) Fault) → does ≡ specified → Refuses w next.line is_last specified now
            → ReadNoFile (if goes_on keep does then run_on step keep left more (status_after so_far does) (effect_of s next.line does).session (files_after (effect_of s next.line does).to (effect_of s next.line does).bytes w.files)
            (called_by next.line (next.depth + 1) (effect_of s next.line does).calls ++ lines) else ended status.Refused).ran
            → ReadNoFile (run_on step keep left more status.Refused s' now.files lines).ran
        at (Ok t) e c h = absurd c
        at (Err fault) e c h =
            let here = subst (λ (r : Result (Effect X) Fault). ReadNoFile (if goes_on keep r then run_on step keep left more (status_after so_far r) (effect_of s next.line r).session
            (files_after (effect_of s next.line r).to (effect_of s next.line r).bytes w.files) (called_by next.line (next.depth + 1) (effect_of s next.line r).calls ++ lines) else ended status.Refused).ran) e h in
            let went = subst (λ b. ReadNoFile (if b then run_on step keep left more status.Refused s w.files lines else ended status.Refused).ran) (on_refused keep (passes_limit fault) is_last goes c.0) here in
            subst (λ (v : World). ReadNoFile (run_on step keep left more status.Refused s' v.files lines).ran) (sym c.1)
            (subst (λ (x : X). ReadNoFile (run_on step keep left more status.Refused x w.files lines).ran) (sym refused.0) went)

    -- no more lines may be run
    pub past_ends : (r : Status) → EndsPast next.line (past next.what) r w now → SessionEndsAs (run_on step keep zero (here ∷ more) so_far s w.files (next ∷ lines)) r s w s now
    past_ends status.Refused h = (refl, (refl, h))
    past_ends status.SinkFault h = (zero, refl, h)
    past_ends status.Memory h = (zero, refl, h)
    past_ends status.SourceFault h = absurd h
    past_ends status.Done h = absurd h
    past_ends status.Usage h = absurd h
    past_ends status.NoScript h = absurd h
    past_ends status.BadScript h = absurd h

    -- a line is refused that ends each run
    pub last_ends : (fault : Fault) → does ≡ Err fault → passes_limit fault ≡ true → (r : Status) → EndsPast next.line fault r w now
        → SessionEndsAs whole r s w s now
    last_ends fault is ends r h =
        subst (λ specified. SessionEndsAs (from specified) r s w s now) (sym is)
        (subst (λ b. SessionEndsAs (with_first next.what (effect_of s next.line (Err fault)) (if b then run_on step keep left more status.Refused s w.files lines else ended status.Refused)) r s w s now)
        (sym (off_limit keep (passes_limit fault) ends)) (at r h))
      where
        at : (r : Status) → EndsPast next.line fault r w now → SessionEndsAs (with_first next.what (effect_of s next.line (Err fault)) (ended status.Refused)) r s w s now
        at status.Refused h = (refl, (refl, h))
        at status.SinkFault h = (zero, refl, h)
        at status.Memory h = (zero, refl, h)
        at status.SourceFault h = absurd h
        at status.Done h = absurd h
        at status.Usage h = absurd h
        at status.NoScript h = absurd h
        at status.BadScript h = absurd h

-- what breaks a line off breaks the run off
pub breaks_run : (how : Broken) → IsBreak (status_of_line (line_end.Broken how))
breaks_run broken.SourceFault = tt
breaks_run broken.SinkFault = tt
breaks_run broken.Memory = tt

-- ---- the world that the machine gives

-- a line that agrees with what is specified ends so in any world, with some world after it
pub ends_in : {X : Type 0} (end : LineEnd) (s s' : X) (w : World) (line : ℕ) (specified : Result (Effect X) Fault) → LineAgrees end specified s s' → (now : World) × EndsLine end s w line specified s' now
ends_in (line_end.Done calls) s s' w line (Ok t) h = (after w t, (h.0, refl, h.1))
ends_in (line_end.Done calls) s s' w line (Err fault) h = absurd h
ends_in (line_end.Refused is_last) s s' w line (Ok t) h = absurd h.1
ends_in (line_end.Refused is_last) s s' w line (Err fault) h = (sent None (refusal line fault) w, (h.0, (h.1, refl)))
ends_in (line_end.Broken how) s s' w line specified h = (w, (h, no_part (effect_of s line specified).to (effect_of s line specified).bytes w))

-- the last line isn't run
pub past_in : (line : ℕ) (fault : Fault) (r : Status) (w : World) → IsPastEnd r → (now : World) × EndsPast line fault r w now
past_in line fault status.Refused w is = (sent None (refusal line fault) w, refl)
past_in line fault status.SinkFault w is = (w, no_part None (refusal line fault) w)
past_in line fault status.Memory w is = (w, no_part None (refusal line fault) w)
past_in line fault status.SourceFault w is = absurd is
past_in line fault status.Done w is = absurd is
past_in line fault status.Usage w is = absurd is
past_in line fault status.NoScript w is = absurd is
past_in line fault status.BadScript w is = absurd is

-- ---- how deep lines are

-- one less is left
fewer_left : (all left fewer : ℕ) (lines : List Waiting) → fewer ≤ left → AreWithin all left lines → AreWithin all fewer lines
fewer_left all left fewer [] le h = tt
fewer_left all left fewer (w ∷ lines) le h = (omega (arith, le, h.0), fewer_left all left fewer lines le h.1)

called_within : (all left line depth : ℕ) (texts : List Bytes) (lines : List Waiting) → depth + left ≤ all → AreWithin all left lines
    → AreWithin all left (called_by line depth texts ++ lines)
called_within all left line depth [] lines le h = h
called_within all left line depth (text ∷ texts) lines le h = (le, called_within all left line depth texts lines le h)

-- after one of them is taken out, and those that it calls are put before the others
pub within_after : (all left : ℕ) (next : Waiting) (texts : List Bytes) (lines : List Waiting) → AreWithin all (suc left) (next ∷ lines)
    → AreWithin all left (called_by next.line (next.depth + 1) texts ++ lines)
within_after all left next texts lines h =
    called_within all left next.line (next.depth + 1) texts lines (omega (arith, h.0)) (fewer_left all (suc left) left lines (omega arith) h.1)

pub within_rest : (all left : ℕ) (next : Waiting) (lines : List Waiting) → AreWithin all (suc left) (next ∷ lines) → AreWithin all left lines
within_rest all left next lines h = fewer_left all (suc left) left lines (omega arith) h.1

-- lines of a script are in no macro
pub items_within : (all : ℕ) (items : List ScriptItem) → AreWithin all all (map waiting_of items)
items_within all [] = tt
items_within all (item ∷ items) = (omega arith, items_within all items)
