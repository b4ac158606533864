-- Lines that wait, the next of which is taken out.
use Rattle.std.proofs.Common.{◌≡◌, ℕ, zero, suc, Bool, true, List, [], ◌∷◌, ◌++◌, Option, Some, None, Result, Ok, Err, refl, sym, ap, subst, ◌∙◌, append_assoc}
use Rattle.std.proofs.lemmas.List.{append-nil}
use Rattle.std.specs.FinMap.{empty}
use Rattle.plain_model.specs.Files.{Files}
use Rattle.plain_model.specs.declared.status.Status.{Status}
use Rattle.plain_model.specs.Paths.{Bytes}
use Rattle.byte_patterns.specs.Judging.{Denial}
use Rattle.script_lines.specs.Scripts.{too_long}
use Rattle.script_lines.specs.declared.script.ScriptLine.{ScriptLine}
use Rattle.script_lines.specs.declared.script.ScriptLine.TheVariants.{Define, Plain}
use Rattle.script_reader.specs.Commands.{order_of}
use Rattle.history_machine.specs.Machine.{SessionEndsAs, World, passes_limit, past, run_on}
use Rattle.history_machine.specs.Sessions.{Session}
use Rattle.history_machine.specs.Steps.{line_step}
use Rattle.history_machine.specs.declared.waiting.Waiting.{Waiting}
use Rattle.surgeon_session.specs.Stacks.{from_last}
use Rattle.surgeon_session.specs.RunsTo.{RunsTo}
use Rattle.surgeon_session.specs.Waits.{EndsPast, IsLongLine, IsNext, IsPastEnd}
use Rattle.surgeon_session.specs.declared.next_line.NextLine.{NextLine}
use Rattle.surgeon_session.proofs.RunningTo.{runs_past, runs_to_last}
use Rattle.surgeon_session.proofs.SessionRounds.{last_ends, past_ends}

-- ---- stacks

-- the list that comes last is the first
pub last_first : {A : Type 0} (lists : List (List A)) (list : List A) → from_last (lists ++ list ∷ []) ≡ list ++ from_last lists
last_first [] list = sym (append-nil list)
last_first (l ∷ lists) list = ap (λ xs. xs ++ l) (last_first lists list) ∙ append_assoc list (from_last lists) l

-- ---- a line that is too long

pub long_past : (what : ScriptLine) → IsLongLine what → past what ≡ too_long
long_past (Plain text) long = rw long refl
long_past (Define name body) long = absurd long

pub long_refused : (denial : Option Denial) (s : Session) (files : Files) (depth : ℕ) (what : ScriptLine) → IsLongLine what → line_step denial s files depth what ≡ Err too_long
unfolding line_step order_of
long_refused denial s files depth (Plain text) long = rw long refl
long_refused denial s files depth (Define name body) long = absurd long

-- it ends the run
pub long_ends : (keep : Bool) (left : ℕ) (so_far : Status) (s : Session) (w now : World) (next : Waiting) (lines : List Waiting) (r : Status) → IsLongLine next.what
    → EndsPast next.line too_long r w now → SessionEndsAs (run_on line_step keep left (None ∷ []) so_far s w.files (next ∷ lines)) r s w s now
long_ends keep zero so_far s w now next lines r long ends =
    past_ends line_step keep zero None [] so_far s s w now next lines r (subst (λ fault. EndsPast next.line fault r w now) (sym (long_past next.what long)) ends)
long_ends keep (suc left) so_far s w now next lines r long ends =
    last_ends line_step keep left None [] so_far s s w now next lines too_long (long_refused None s w.files next.depth next.what long) refl r ends

pub runs_to_long : (keep : Bool) (left : ℕ) (so_far : Status) (s : Session) (next : Waiting) (lines : List Waiting) (r : Status) → IsLongLine next.what → IsPastEnd r
    → RunsTo line_step keep left (None ∷ []) so_far s (next ∷ lines) r s
runs_to_long keep zero so_far s next lines r long past = runs_past line_step keep None [] so_far (None ∷ []) s next lines r past
runs_to_long keep (suc left) so_far s next lines r long past =
    runs_to_last line_step keep None [] so_far left s s next lines empty too_long (long_refused None s empty next.depth next.what long) refl r past

-- ---- lines that come before all others

-- a list in the place of the first one, which is put on the stack
pub called_first : {A : Type 0} (new current kept : List A) (around now : List (List A)) (script : List A) → kept ≡ current → now ≡ around ++ kept ∷ []
    → new ++ (from_last now ++ script) ≡ new ++ (current ++ (from_last around ++ script))
called_first new current kept around now script same put =
    rw (put, same) (ap (λ xs. new ++ (xs ++ script)) (last_first around current) ∙ ap (λ xs. new ++ xs) (append_assoc current (from_last around) script))

-- the last list of the stack in the place of the first one, which has nothing any more
pub popped_first : {A : Type 0} (current frame : List A) (rest all : List (List A)) → current ≡ [] → all ≡ rest ++ frame ∷ []
    → current ++ from_last all ≡ frame ++ from_last rest
popped_first current frame rest all none popped = rw (none, popped) (last_first rest frame)

-- where nothing of macros waits, the next line is that of the script
pub next_of_script : (taken : Option NextLine) (old new : List Waiting) (current now : List Waiting) (around left : List (List Waiting))
    → IsNext None (current ++ from_last around) (now ++ from_last left) → IsNext taken old new
    → IsNext taken (current ++ (from_last around ++ old)) (now ++ (from_last left ++ new))
next_of_script taken old new current now around left none is =
    rw (sym (append_assoc current (from_last around) old), none.0, sym (append_assoc now (from_last left) new), none.1) is
